-- What is answered for a datagram part by part: it is opened hop by hop, a try is decided on, and the packet is accepted.
use Rattle.std.specs.Prelude.{◌≡◌, ℕ, ◌+◌, ◌≤◌, nat_lt, if◌then◌else◌, List, length, Option, Some, Result, Ok, Err, IfSome, MatchResult}
use Rattle.std.specs.Option.{option_map}
use Rattle.perc_rtp.specs.Header.{Header, IsHeader}
use Rattle.perc_srtp.specs.Sealed.{BeginsWith}
use Rattle.perc_ohb.specs.Block.{IsOhb}
use Rattle.perc_contexts.specs.Receiving.{Carried, Context, Receiving, tries}
use Rattle.perc_contexts.specs.Kept.{IsCarried, MayCommit}
use Rattle.perc_outer.specs.declared.fault.OuterFault.{OuterFault}
use Rattle.perc_outer.specs.declared.fault.OuterFault.TheVariants.{Ohb}
use Rattle.perc_outer.specs.declared.reaching.Reached.{Reached}
use Rattle.perc_outer.specs.Datagram as outer
use Rattle.perc_outer.specs.Datagram.{Opened, Reach, original_header, streams_after}
use Rattle.perc_outer.specs.Kept.{IsInRange, IsTold}
use Rattle.perc_receiver.specs.declared.refusal.Refusal.{Refusal}
use Rattle.perc_receiver.specs.declared.refusal.Refusal.TheVariants as refusal
use Rattle.perc_receiver.specs.Table.{Secret}
use Rattle.perc_receiver.specs.Opener.{by_cipher}
use Rattle.perc_receiver.specs.Receiver.{OpenTry, Receiver, carried_by, judged_open, receiving, some_tries}
use Rattle.perc_receiver.specs.Receiver as receiver
use Rattle.perc_incoming.specs.declared.choosing.Decided.{Decided}
use Rattle.perc_incoming.specs.declared.settling.Accepted.{Accepted}
use Rattle.perc_incoming.specs.Kept.{Kept, StandsFor}
use Rattle.perc_incoming.specs.Asking.{decided_by, key_of}

-- ---- opened hop by hop

-- This is told of the opened datagram in these octets; its header and its block are such.
pub record IsToldOf (o : Opened) (octets : List ℕ) (told : Reached) : Type 0 where
  pub told_is : IsTold told o octets
  pub header : IsHeader o.header
  pub block : IsOhb o.block

-- At most 1500 octets are those of some opened datagram, of which this is told.
pub record IsReached (octets : List ℕ) (told : Reached) : Type 0 where
  pub few : length octets ≤ 1500
  pub range : IsInRange octets told
  pub opened : Opened
  pub is : IsToldOf opened octets told

-- What is answered for a datagram, and what stands in its octets then.
abbrev pub IsReachedAs : Reach → Result Reached OuterFault → List ℕ → Type 0
IsReachedAs (outer.Refused fault) result octets = result ≡ Err fault
IsReachedAs (outer.Blocked ssrc index fault) result octets = result ≡ Err (Ohb fault)
IsReachedAs (outer.Reached o) result octets = MatchResult result (IsToldOf o octets) (λ _. ⊥)

-- the receiver behind it
abbrev pub after_reach : Receiver → Reach → Receiver
after_reach r reach = record r { streams = streams_after r.streams reach }

-- ---- decided

abbrev pub decided_carried : List Secret → List Context → Header → List ℕ → Result (Option Carried) Refusal → Result OpenTry Refusal
decided_carried secrets contexts h octets (Err e) = Err e
decided_carried secrets contexts h octets (Ok carried) = decided_by secrets h octets (some_tries (tries contexts h.ssrc h.seq carried))

-- The first fresh try of an opened datagram that opens, or why there is none; all but the padding is looked at.
abbrev pub decision : List Secret → List Context → Opened → Result OpenTry Refusal
decision secrets contexts o =
    if nat_lt (length o.inner) 16 then Err refusal.InnerShort
    else decided_carried secrets contexts (original_header o) o.inner (carried_by (by_cipher secrets) secrets o.header.ssrc o.field)

-- A try was taken: it may be committed, and the body to which it opens stands at the front of the room.
pub record IsTakenAs (held : Receiving) (ssrc : ℕ) (o : OpenTry) (d : Decided) (room : List ℕ) : Type 0 where
  pub fits : IfSome d.carried (λ key. key.wrapped.len ≤ 32)
  pub carried : IsCarried held.live (option_map key_of d.carried)
  pub may : MayCommit held ssrc (option_map key_of d.carried) d.attempt o.attempt
  pub len : d.len ≡ length o.body
  pub body : BeginsWith o.body room

-- This was decided, and these octets stand in the room then.
abbrev pub IsDecision : Receiving → ℕ → Result OpenTry Refusal → Result Decided Refusal → List ℕ → Type 0
IsDecision held ssrc (Ok o) (Ok d) room = IsTakenAs held ssrc o d room
IsDecision held ssrc (Ok o) (Err e) room = ⊥
IsDecision held ssrc (Err e) result room = result ≡ Err e

-- It stands behind the outer layer.
abbrev pub IsInner : Refusal → Type 0
IsInner (refusal.Outer fault) = ⊥
IsInner e = Unit {0}

-- ---- accepted

-- The packet is accepted as this one.
pub record IsAcceptedAs (a : receiver.Accepted) (told : Accepted) : Type 0 where
  pub ssrc : told.ssrc ≡ a.header.ssrc
  pub spi : told.spi ≡ a.attempt.context.spi
  pub index : told.index ≡ a.attempt.index
  pub pt : told.pt ≡ a.header.pt
  pub seq : told.seq ≡ a.header.seq
  pub marker : told.marker ≡ a.header.marker
  pub timestamp : told.timestamp ≡ a.header.timestamp
  pub payload : told.payload.now ≡ a.payload

-- This is answered.
abbrev pub IsAnswered : Result receiver.Accepted Refusal → Result Accepted Refusal → Type 0
IsAnswered (Ok a) (Ok told) = IsAcceptedAs a told
IsAnswered (Ok a) (Err e) = ⊥
IsAnswered (Err e) result = result ≡ Err e

-- A try was taken for a datagram, in what is kept; the body to which it opens is no longer than the inner octets.
pub record IsTakenIn (kept : Kept) (octets : List ℕ) (told : Reached) (d : Decided) (room : List ℕ) : Type 0 where
  pub within : told.header + d.len ≤ told.block
  pub receiver_is : Receiver
  pub stands : StandsFor kept receiver_is
  pub datagram : Opened
  pub told_is : IsToldOf datagram octets told
  pub try_is : OpenTry
  pub taken : IsTakenAs (receiving receiver_is) datagram.header.ssrc try_is d room

-- the answer once a try was taken: all but the padding is decided
abbrev pub padding_answer : Opened → OpenTry → Result receiver.Accepted Refusal
padding_answer o t = judged_open (original_header o) (Ok t)

-- What stays as it was where a datagram is refused up to a wrong outer tag.
abbrev pub StaysWhenRefused : Result Accepted Refusal → Type 0 → Type 0
StaysWhenRefused (Ok told) Stays = Unit {0}
StaysWhenRefused (Err (refusal.Outer (Ohb fault))) Stays = Unit {0}
StaysWhenRefused (Err (refusal.Outer fault)) Stays = Stays
StaysWhenRefused (Err e) Stays = Unit {0}
