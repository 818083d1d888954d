-- What happens over any list of calls of a sender, told without what it keeps: by what was taken and sent before.
use Rattle.std.specs.Prelude.{◌≡◌, ℕ, suc, ◌+◌, ◌^◌, ◌<◌, ◌≤◌, ◌⊎◌, ◌==◌, if◌then◌else◌, List, [], ◌∷◌, ◌++◌, Option, Some, None, Result, Ok, Err}
use Rattle.perc_sender.specs.declared.SendPlace.{SendPlace}
use Rattle.perc_sender.specs.declared.TakeFault.{TakeFault}
use Rattle.perc_sender.specs.declared.NextFault.{NextFault}
use Rattle.perc_sender.specs.Schedule.{Sending, take_answer, with_key, next_answer, after_packet, is_full_field, roll_over}

-- a call of a sender
pub data Call : Type 0 where
  Take : (spi : ℕ) → (key : List ℕ) → Call
  Next : Call

-- what a call did that wasn't refused: a key was taken under an SPI, with an epoch, or a packet was sent
pub data Event : Type 0 where
  Took : (spi epoch : ℕ) → (key : List ℕ) → Event
  Sent : SendPlace → Event

-- a call, and what it did
abbrev pub after_take : Sending → ℕ → List ℕ → Result ℕ TakeFault → Sending × List Event
after_take s spi key (Ok epoch) = (with_key s spi key, Took spi epoch key ∷ [])
after_take s spi key (Err e) = (s, [])

abbrev pub after_next : Sending → Result SendPlace NextFault → Sending × List Event
after_next s (Ok place) = (after_packet s, Sent place ∷ [])
after_next s (Err e) = (s, [])

abbrev pub after_call : Sending → Call → Sending × List Event
after_call s (Take spi key) = after_take s spi key (take_answer s spi key)
after_call s Next = after_next s (next_answer s)

-- the events of the calls in turn, the newest first, followed by those before
abbrev pub events : Sending → List Call → List Event → List Event
events s [] before = before
events s (call ∷ calls) before = events (after_call s call).0 calls ((after_call s call).1 ++ before)

-- ---- what the events before tell, the newest first

-- how many packets were sent
abbrev pub sent_in : List Event → ℕ
sent_in [] = 0
sent_in (Sent place ∷ before) = suc (sent_in before)
sent_in (Took spi epoch key ∷ before) = sent_in before

-- how many packets were sent under the newest key
abbrev pub sent_under_key : List Event → ℕ
sent_under_key [] = 0
sent_under_key (Sent place ∷ before) = suc (sent_under_key before)
sent_under_key (Took spi epoch key ∷ before) = 0

-- the ROC of the newest packet
abbrev pub last_roll_over : List Event → Option ℕ
last_roll_over [] = None
last_roll_over (Sent place ∷ before) = Some (roll_over place.index)
last_roll_over (Took spi epoch key ∷ before) = last_roll_over before

-- the SPI and the epoch of the newest key
abbrev pub newest_key : List Event → Option (ℕ × ℕ)
newest_key [] = None
newest_key (Sent place ∷ before) = newest_key before
newest_key (Took spi epoch key ∷ before) = Some (spi, epoch)

-- how many keys were taken under an SPI, and in all
abbrev pub taken_under : ℕ → List Event → ℕ
taken_under spi [] = 0
taken_under spi (Sent place ∷ before) = taken_under spi before
taken_under spi (Took other epoch key ∷ before) = (if other == spi then 1 else 0) + taken_under spi before

abbrev pub taken_in : List Event → ℕ
taken_in [] = 0
taken_in (Sent place ∷ before) = taken_in before
taken_in (Took spi epoch key ∷ before) = suc (taken_in before)

-- A key was never taken.
abbrev pub IsNew : List ℕ → List Event → Type 0
IsNew key [] = Unit {0}
IsNew key (Sent place ∷ before) = IsNew key before
IsNew key (Took spi epoch other ∷ before) = (other ≡ key → ⊥) × IsNew key before

-- A packet has the index after the one before, from the first on; it goes out under the newest key; and its field is full
-- by its number under that key and by the ROC of the packet before.
pub record IsNext (first : ℕ) (place : SendPlace) (before : List Event) : Type 0 where
  pub index : place.index ≡ first + sent_in before
  pub in_range : place.index < 2 ^ 48
  pub key : newest_key before ≡ Some (place.spi, place.epoch)
  pub full : place.full ≡ is_full_field (sent_under_key before) (roll_over place.index) (last_roll_over before)

-- A key is new, its epoch counts the keys before under its SPI, and there are at most 64 under an SPI and 512 in all.
pub record IsTaken (spi epoch : ℕ) (key : List ℕ) (before : List Event) : Type 0 where
  pub new : IsNew key before
  pub counted : epoch ≡ taken_under spi before
  pub few_under : taken_under spi before < 64
  pub few : taken_in before < 512

-- Each event is right after those before it.
abbrev pub IsHistory : ℕ → List Event → Type 0
IsHistory first [] = Unit {0}
IsHistory first (Sent place ∷ before) = IsNext first place before × IsHistory first before
IsHistory first (Took spi epoch key ∷ before) = IsTaken spi epoch key before × IsHistory first before

-- ---- what each call does

-- A call is refused for what was done before: a key because it was taken, or 64 were under its SPI or 512 in all; a packet
-- because no key was taken, or no index is left.
abbrev pub IsRefused : ℕ → Call → List Event → Type 0
IsRefused first (Take spi key) before = (IsNew key before → ⊥) ⊎ ((64 ≤ taken_under spi before) ⊎ (512 ≤ taken_in before))
IsRefused first Next before = (newest_key before ≡ None) ⊎ (first + sent_in before ≡ 2 ^ 48)

-- A call does what it asks for, once, or it is refused.
abbrev pub IsDone : ℕ → Call → List Event → List Event → Type 0
IsDone first call before [] = IsRefused first call before
IsDone first (Take spi key) before (event ∷ more) = (epoch : ℕ) × (event ∷ more ≡ Took spi epoch key ∷ [])
IsDone first Next before (event ∷ more) = (place : SendPlace) × (event ∷ more ≡ Sent place ∷ [])

-- This holds of each of the calls in turn.
abbrev pub EachIsDone : ℕ → Sending → List Call → List Event → Type 0
EachIsDone first s [] before = Unit {0}
EachIsDone first s (call ∷ calls) before =
    IsDone first call before (after_call s call).1
    × EachIsDone first (after_call s call).0 calls ((after_call s call).1 ++ before)
