-- The octets that `alter` and `graft` make of datagrams, or the reason for which they make none; and what `rtcp` seals.
use Rattle.std.specs.Global.{Vec}
use Rattle.std.specs.Prelude.{◌≡◌, ℕ, ◌+◌, ◌^◌, ◌<◌, ◌≤◌, nat_lt, if◌then◌else◌, List, length, Some, None, Result, Ok, Err}
use Rattle.perc_endpoint.specs.Endpoint.{Endpoint}
use Rattle.perc_endpoint.specs.Kept as endpoint
use Rattle.perc_outgoing.specs.Sending.{after_rtcp, sent_rtcp}
use Rattle.perc_distributor.specs.Forwarding.{most_octets}
use Rattle.perc_script_line.specs.declared.reason.Reason.{Reason}
use Rattle.perc_script_line.specs.declared.reason.Reason.TheVariants as reason
use Rattle.perc_run.specs.Hostile.{altered, grafted, no_graft}
use Rattle.perc_run.specs.State.{Datagram, State, datagram_at}
use Rattle.perc_member.specs.Each.{MirrorsDatagram}
use Rattle.perc_member.specs.declared.datagram.Datagram as code_datagram
use Rattle.perc_conference_state.specs.declared.conference.Stop.TheVariants as stop
use Rattle.perc_conference_state.specs.declared.conference.Stop.{Stop}

-- the datagram of this number, and its octets
pub record IsDatagramOf (s : State) (number : ℕ) (octets : List ℕ) : Type 0 where
  pub datagram : Datagram
  pub there : datagram_at s.datagrams number ≡ Some datagram
  pub octets_are : octets ≡ datagram.octets
  pub few : length octets ≤ 1500

-- There is none of this number, and this is why a line isn't done.
abbrev pub IsNoDatagram : State → ℕ → Stop → Type 0
IsNoDatagram s number e = (datagram_at s.datagrams number ≡ None) × (e ≡ stop.Refused reason.Datagram)

-- the octets with others in the place of those from an offset on
abbrev pub alteration : List ℕ → ℕ → List ℕ → Result (List ℕ) Reason
alteration octets offset new = if nat_lt (length octets) (offset + length new) then Err reason.Datagram else Ok (altered octets offset new)

-- the front of the one and the back of the other
abbrev pub graft : List ℕ → ℕ → List ℕ → ℕ → Result (List ℕ) Reason
graft first front second back =
    if no_graft first front second back then Err reason.Datagram
    else (if nat_lt most_octets (front + back) then Err reason.Limit else Ok (grafted first front second back))

-- These octets are given, or this reason; or no memory was found for the octets.
abbrev pub Makes : Result (List ℕ) Reason → Result (Vec ℕ) Stop → Type 0
Makes (Ok octets) (Ok made) = made.items ≡ octets
Makes (Ok octets) (Err e) = e ≡ stop.Memory
Makes (Err why) (Ok made) = ⊥
Makes (Err why) (Err e) = e ≡ stop.Refused why

-- The endpoint has an index left for a control packet.
abbrev pub MaySeal : endpoint.Kept → Type 0
MaySeal kept = (e : Endpoint) × endpoint.StandsFor kept e × (e.sending.rtcp < 2 ^ 31)

-- The datagram is the endpoint's next control packet, and this is the endpoint behind it.
pub record Seals (e : Endpoint) (plain : List ℕ) (kept : endpoint.Kept) (datagram : code_datagram.Datagram) : Type 0 where
  pub datagram_is : MirrorsDatagram datagram (record { octets = sent_rtcp e.sending plain; unsealed = None })
  pub stands : endpoint.StandsFor kept (record e { sending = after_rtcp e.sending })
