-- What a delivery does, part by part.
use Rattle.std.specs.Prelude.{◌≡◌, ℕ, true, false, List, [], ◌∷◌, ◌++◌, Some, Result, Ok, Err, slice_get}
use Rattle.perc_conference_state.specs.Mirror.{Mirrors, told_of}
use Rattle.perc_conference_state.specs.declared.conference.Conference as code
use Rattle.perc_conference_state.specs.declared.conference.Stop.TheVariants as stop
use Rattle.perc_conference_state.specs.declared.conference.Stop.{Stop}
use Rattle.perc_conference_state.specs.declared.conference.Told.{Told}
use Rattle.perc_deliver_line.specs.declared.delivering.Delivery.{Delivery}
use Rattle.perc_deliver_line.specs.declared.delivering.Heard.TheVariants as heard
use Rattle.perc_deliver_line.specs.declared.delivering.Heard.{Heard}
use Rattle.perc_incoming.specs.Outcome.{IsAcceptedAs, IsTakenIn}
use Rattle.perc_incoming.specs.declared.choosing.Decided.{Decided}
use Rattle.perc_incoming.specs.declared.settling.Accepted.{Accepted}
use Rattle.perc_member.specs.declared.member.Member as code_member
use Rattle.perc_outer.specs.declared.reaching.Reached.{Reached}
use Rattle.perc_receiver.specs.Foreign.{is_foreign}
use Rattle.perc_receiver.specs.Receiver as receiver
use Rattle.perc_receiver.specs.Receiver.{outcome, settled}
use Rattle.perc_receiver.specs.declared.refusal.Refusal as inner
use Rattle.perc_receiver.specs.Table.{Row}
use Rattle.perc_report_line.specs.Report.{Report, Accept, report_text}
use Rattle.perc_run.specs.Delivering.{acceptance, media_refusal, row_at, with_receiver}
use Rattle.perc_run.specs.Sound.{IsOrderly}
use Rattle.perc_run.specs.State.{Member, State, with_member}

-- The conference stands for an orderly state, in which this member is at the place.
pub record StandsAt (c : code.Conference) (place : ℕ) (s : State) (m : Member) : Type 0 where
  pub orderly : IsOrderly s
  pub mirrors : Mirrors c s
  pub at : slice_get s.members place ≡ Some m

-- A try was taken for an opened datagram, in what the member at the place keeps.
abbrev pub IsTakenAt : code.Conference → ℕ → List ℕ → Reached → Decided → List ℕ → Type 0
IsTakenAt c place octets told d room =
    (a : code_member.Member) → slice_get c.members.items place ≡ Some a → IsTakenIn a.endpoint.receiving octets told d room

-- the state once this receiver is the member's
abbrev pub heard_state : State → Member → receiver.Receiver → State
heard_state s m r = record s { members = with_member m.name (with_receiver r) s.members }

-- what is answered for a datagram that isn't foreign
abbrev pub IsHeardAs : Result receiver.Accepted inner.Refusal → Heard → Type 0
IsHeardAs (Ok a) (heard.Accepted told) = IsAcceptedAs a told
IsHeardAs (Ok a) (heard.Refused reason) = ⊥
IsHeardAs (Ok a) heard.Foreign = ⊥
IsHeardAs (Err e) (heard.Accepted told) = ⊥
IsHeardAs (Err e) (heard.Refused reason) = reason ≡ media_refusal e
IsHeardAs (Err e) heard.Foreign = ⊥

-- A member hears a datagram: it is foreign, or its answer is told and its receiver is what is held then.
abbrev pub Hears : State → Member → List ℕ → Heard → code.Conference → Type 0
Hears s m octets heard.Foreign c = is_foreign s.table m.endpoint.receiving octets ≡ true
Hears s m octets told c =
    (is_foreign s.table m.endpoint.receiving octets ≡ false) × IsHeardAs (outcome m.endpoint.receiving octets).0 told
    × Mirrors c (heard_state s m (outcome m.endpoint.receiving octets).1)

-- It accepts an opened datagram, or refuses it for its padding.
pub record Settles (s : State) (m : Member) (answer : Result receiver.Accepted inner.Refusal) (told : Heard) (c : code.Conference) : Type 0 where
  pub heard_as : IsHeardAs answer told
  pub mirrors : Mirrors c (heard_state s m (settled m.endpoint.receiving answer))

-- The line is reported, or no memory is found.
abbrev pub Reports : Report → Result Told Stop → List ℕ → List ℕ → Type 0
Reports line (Err e) before after = e ≡ stop.Memory
Reports line (Ok told) before after = (told ≡ told_of (line ∷ [])) × (after ≡ before ++ report_text line)

-- The packet is told; it was taken by a try under a context of its sender.
pub record IsToldAs (a : receiver.Accepted) (told : Accepted) : Type 0 where
  pub accepted : IsAcceptedAs a told
  pub sender : a.attempt.context.ssrc ≡ a.header.ssrc

-- Somebody sent the packet, in a state that the conference stands for.
pub record WasSent (c : code.Conference) (told : Accepted) : Type 0 where
  pub state : State
  pub orderly : IsOrderly state
  pub mirrors : Mirrors c state
  pub row : Row
  pub found : row_at state.table told.ssrc told.index ≡ Some row

-- An accepted packet is reported, as whichever packet it was.
abbrev pub Tells : State → Delivery → Accepted → Result Told Stop → List ℕ → List ℕ → Type 0
Tells s d told (Err e) before after = e ≡ stop.Memory
Tells s d told (Ok kinds) before after =
    (a : receiver.Accepted) → IsToldAs a told → Reports (Accept (acceptance s.table d.datagram d.name a)) (Ok kinds) before after
