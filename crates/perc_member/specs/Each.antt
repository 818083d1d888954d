-- How datagrams and members of the code stand for those of the definition.
use Rattle.std.specs.List.{last_or}
use Rattle.std.specs.Prelude.{◌+◌, map, IfSome, MatchOption, ◌≡◌, ℕ, ◌-◌, ◌≤◌, List, length, drop, Option, Some, None, slice_get}
use Rattle.perc_double.specs.Double.{IsOpened}
use Rattle.perc_ekt.specs.Field.{spelling}
use Rattle.perc_endpoint.specs.Kept as endpoint
use Rattle.perc_kdf.specs.Derivation.{session_keys}
use Rattle.perc_kdf.specs.declared.Kind.TheVariants.{Srtp}
use Rattle.perc_member.specs.declared.datagram.Datagram as code_datagram
use Rattle.perc_member.specs.declared.datagram.Unsealed as code_unsealed
use Rattle.perc_member.specs.declared.member.Member as code_member
use Rattle.perc_member.specs.declared.member.Span.{Span}
use Rattle.perc_member.specs.declared.member.TakenKey.{TakenKey}
use Rattle.perc_outgoing.specs.Sending.{outer_index}
use Rattle.perc_run.specs.State.{Datagram, Member, Unsealed}
use Rattle.perc_sender.specs.Schedule.{Sending, Taken, roll_over}

-- these mirror those, one by one
pub record MirrorEach {C D : Type 0} (Mirror : C → D → Type 0) (cs : List C) (ds : List D) : Type 0 where
  pub count : length cs ≡ length ds
  pub each : (k : ℕ) (c : C) (d : D) → slice_get cs k ≡ Some c → slice_get ds k ≡ Some d → Mirror c d

-- the packet before its outer seal, and the field at the end of the datagram
pub record MirrorsUnsealed (octets : List ℕ) (c : code_unsealed.Unsealed) (u : Unsealed) : Type 0 where
  pub packet : IsOpened u.header u.inner u.block c.packet.items
  pub few : length c.packet.items ≤ 1500
  pub field : drop (length octets - c.field) octets ≡ spelling u.field
  pub within : c.field ≤ length octets

abbrev pub MirrorsUnsealeds : List ℕ → Option code_unsealed.Unsealed → Option Unsealed → Type 0
MirrorsUnsealeds octets None None = Unit {0}
MirrorsUnsealeds octets None (Some u) = ⊥
MirrorsUnsealeds octets (Some c) None = ⊥
MirrorsUnsealeds octets (Some c) (Some u) = MirrorsUnsealed octets c u

pub record MirrorsDatagram (c : code_datagram.Datagram) (d : Datagram) : Type 0 where
  pub octets : c.octets.items ≡ d.octets
  pub few : length d.octets ≤ 1500
  pub unsealed : MirrorsUnsealeds d.octets c.unsealed d.unsealed

abbrev pub taken_in : TakenKey → Taken
taken_in k = record { spi = k.spi; key = k.key }

-- Where a packet went out under the key that was taken last, the last one did.
abbrev pub EndsAt : ℕ → Option TakenKey → Type 0
EndsAt next None = ⊥
EndsAt next (Some k) = IfSome k.sent (λ span. span.last + 1 ≡ next)

-- The packets of the span went out under the key that was taken last, the last of them before the next packet.
pub record RunsUpTo (sending : Sending) (span : Span) : Type 0 where
  pub order : span.first ≤ span.last
  pub before : sending.before ≡ Some (roll_over span.last)

-- Where none did, none was counted under it.
abbrev pub CountsFrom : Sending → Option TakenKey → Type 0
CountsFrom sending None = ⊥
CountsFrom sending (Some k) = MatchOption k.sent (sending.number ≡ 0) (RunsUpTo sending)

pub record MirrorsMember (c : code_member.Member) (m : Member) : Type 0 where
  pub name : c.name ≡ m.name
  pub association : c.association ≡ m.association
  pub ssrc : c.ssrc ≡ m.ssrc
  pub client : c.client ≡ m.client
  pub server : c.server ≡ m.server
  pub endpoint : endpoint.StandsFor c.endpoint m.endpoint
  pub opening_keys : c.opening.keys ≡ session_keys m.client Srtp
  pub opening_next : c.opening.next ≡ outer_index m.endpoint.sending
  pub present : c.present ≡ m.present
  -- each packet that it sent has a datagram
  pub next : c.first + length c.sends.items ≡ m.endpoint.sending.sending.next
  pub keys : map taken_in c.keys.items ≡ m.endpoint.sending.sending.keys
  pub last : EndsAt m.endpoint.sending.sending.next (last_or None c.keys.items)
  -- which of its packets carry the key
  pub counted : CountsFrom m.endpoint.sending.sending (last_or None c.keys.items)
