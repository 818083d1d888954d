-- What was sealed of a datagram, by its number, and what is asked of it.
use Rattle.std.proofs.Common.{◌≡◌, ℕ, ◌-◌, ◌<◌, ◌≤◌, false, List, [], ◌++◌, length, take, drop, get_or, Option, Some, None, refl, sym, ap, ◌∙◌, subst, arith}
use Rattle.std.specs.Option.{option_map_or}
use Rattle.std.specs.Str.{bytes_eq}
use Rattle.std.proofs.lemmas.List.{append-nil, drop_at, take_at}
use Rattle.std.proofs.lemmas.Option.{slice_get_read}
use Rattle.perc_rtp.specs.Fields.{cut}
use Rattle.perc_rtp.specs.Header.{Header, IsPacket, spelling}
use Rattle.perc_rtp.proofs.HeaderLaws.{IsHeader-cut}
use Rattle.perc_double.specs.Double.{IsOpened}
use Rattle.perc_ohb.specs.Block as block
use Rattle.perc_receiver.specs.Opener.{same_header}
use Rattle.perc_receiver.proofs.Headers.{same_header-spelled}
use Rattle.perc_member.specs.Each.{MirrorsDatagram, MirrorsUnsealeds}
use Rattle.perc_member.specs.Making.{ArePartsOf}
use Rattle.perc_member.specs.declared.datagram.Datagram as code_datagram
use Rattle.perc_member.specs.declared.datagram.Parts.{Parts}
use Rattle.perc_member.specs.declared.datagram.Unsealed as code_unsealed
use Rattle.perc_run.specs.State.{Datagram, State, Unsealed, datagram_at}
use Rattle.perc_sent.specs.Sent.{MirrorsTable, is_packet, is_packet_of}
use Rattle.perc_sent.specs.declared.table.Table as code
use Rattle.perc_sent.proofs.Finding.{mirror_at}
use Rattle.perc_sent.proofs.Rows.{datagram_place}

none_asked : (h : Header) (octets : List ℕ) (d : Datagram) → MirrorsUnsealeds d.octets None d.unsealed → false ≡ is_packet_of (Some d) h octets
none_asked h octets d mirrors = by d.unsealed mirrors where
  by : (u : Option Unsealed) → MirrorsUnsealeds d.octets None u → false ≡ option_map_or (is_packet h octets) u false
  by None none = refl
  by (Some u) none = absurd none

-- the datagram of a number, of which the code keeps this
pub record IsDatagramOf (s : State) (number : ℕ) (kept : Option code_unsealed.Unsealed) : Type 0 where
  pub datagram : Datagram
  pub at : datagram_at s.datagrams number ≡ Some datagram
  pub unsealed : MirrorsUnsealeds datagram.octets kept datagram.unsealed

datagram_of : (t : code.Table) (s : State) (number : ℕ) (d : code_datagram.Datagram) → MirrorsTable t s → 0 < number → number ≤ length t.datagrams.now
    → d ≡ get_or t.datagrams.now (number - 1) d → IsDatagramOf s number d.unsealed
datagram_of t s number d is above within at =
    let place = slice_get_read t.datagrams.now (length t.datagrams.now) (number - 1) d refl (omega arith) at in
    let it = mirror_at MirrorsDatagram t.datagrams.now s.datagrams (number - 1) d is.datagrams place in
    record { datagram = it.0; at = datagram_place s.datagrams number above ∙ it.1; unsealed = it.2.unsealed }

datagram_as : (t : code.Table) (s : State) (number : ℕ) (d : code_datagram.Datagram) (kept : Option code_unsealed.Unsealed) → MirrorsTable t s → 0 < number
    → number ≤ length t.datagrams.now → d ≡ get_or t.datagrams.now (number - 1) d → (get_or t.datagrams.now (number - 1) d).unsealed ≡ kept → IsDatagramOf s number kept
datagram_as t s number d kept is above within at e =
    subst (IsDatagramOf s number) (ap (λ (x : code_datagram.Datagram). x.unsealed) at ∙ e) (datagram_of t s number d is above within at)

-- Where nothing was sealed, it is no packet.
pub no_packet : (t : code.Table) (s : State) (number : ℕ) (d : code_datagram.Datagram) (h : Header) (octets : List ℕ) → MirrorsTable t s → 0 < number
    → number ≤ length t.datagrams.now → d ≡ get_or t.datagrams.now (number - 1) d → (get_or t.datagrams.now (number - 1) d).unsealed ≡ None
    → false ≡ is_packet_of (datagram_at s.datagrams number) h octets
no_packet t s number d h octets mirrors above within at e =
    let is = datagram_as t s number d None mirrors above within at e in
    rw is.at (none_asked h octets is.datagram is.unsealed)

-- what was sealed of it
pub record IsSealedAs (s : State) (number : ℕ) (packet : List ℕ) : Type 0 where
  pub unsealed : Unsealed
  pub opened_is : IsOpened unsealed.header unsealed.inner unsealed.block packet
  pub asked : (h : Header) (octets : List ℕ) → is_packet_of (datagram_at s.datagrams number) h octets ≡ is_packet h octets unsealed

sealed_as : (s : State) (number : ℕ) (u : code_unsealed.Unsealed) → IsDatagramOf s number (Some u) → IsSealedAs s number u.packet.items
sealed_as s number u is = by is.datagram.unsealed refl is.unsealed where
  by : (v : Option Unsealed) → is.datagram.unsealed ≡ v → MirrorsUnsealeds is.datagram.octets (Some u) v → IsSealedAs s number u.packet.items
  by None e mirrors = absurd mirrors
  by (Some v) e mirrors = record { unsealed = v; opened_is = mirrors.packet; asked = λ h octets. rw is.at (rw e refl) }

pub sealed_at : (t : code.Table) (s : State) (number : ℕ) (d : code_datagram.Datagram) (u : code_unsealed.Unsealed) → MirrorsTable t s → 0 < number
    → number ≤ length t.datagrams.now → d ≡ get_or t.datagrams.now (number - 1) d → (get_or t.datagrams.now (number - 1) d).unsealed ≡ Some u
    → IsSealedAs s number u.packet.items
sealed_at t s number d u is above within at e = sealed_as s number u (datagram_as t s number d (Some u) is above within at e)

-- ---- what is asked of it

-- The header is compared as it is spelled.
pub header_told : (u : Unsealed) (h : Header) (packet out room asked : List ℕ) (len : ℕ) → IsOpened u.header u.inner u.block packet → IsPacket h [] asked
    → out ≡ spelling (cut u.header) ++ drop len room → len ≡ length (spelling (cut u.header)) → same_header (cut u.header) h ≡ bytes_eq (take len out) asked
header_told u h packet out room asked len is_u is_h out_is len_is =
    let spelled : spelling h ≡ asked = sym (append-nil (spelling h)) ∙ sym is_h.octets in
    let front : take len out ≡ spelling (cut u.header) = ap (take len) out_is ∙ take_at (spelling (cut u.header)) (drop len room) len (sym len_is) in
    same_header-spelled (cut u.header) h (IsHeader-cut u.header is_u.reads.header) is_h.header ∙ λ i. bytes_eq (sym front i) (spelled i)

-- The inner octets stand between the header and the block.
pub inner_told : (u : Unsealed) (packet : List ℕ) (p : Parts) → IsOpened u.header u.inner u.block packet → ArePartsOf u.header u.inner u.block packet p
    → take (p.inner - p.header) (drop p.header packet) ≡ u.inner
inner_told u packet p is parts =
    let behind : drop p.header packet ≡ u.inner ++ block.spelling u.block =
    ap (drop p.header) is.reads.octets ∙ drop_at (spelling u.header) (u.inner ++ block.spelling u.block) p.header (sym parts.header) in
    let header = parts.header in
    let inner = parts.inner_is in
    ap (take (p.inner - p.header)) behind ∙ take_at u.inner (block.spelling u.block) (p.inner - p.header) (omega arith)
