-- A publisher that is brought the replies, and publishes in between.
use Rattle.std.specs.Prelude.{◌≡◌, ℕ, ◌<◌, if◌then◌else◌, List, [], ◌∷◌, ◌++◌, length, None}
use Rattle.perc_tunnel.specs.declared.message.MediaKeys as keys
use Rattle.perc_keyset.specs.declared.Op.TheVariants.{Remove}
use Rattle.perc_keyset.specs.Calls.{Call, AddCall, RemoveCall}
use Rattle.perc_keyset.specs.History.{adds}
use Rattle.perc_keyset.specs.Accepting.{most_adds}
use Rattle.perc_keyset.specs.Set.{fold_ops, holds}
use Rattle.perc_keydist.specs.Answers.{Answers}
use Rattle.perc_keydist.specs.Distributing.{Event, State, run_of}
use Rattle.perc_published.specs.Calls.{Publishing, accepting, answer_to, behind_add}
use Rattle.perc_membership.specs.Membership.{HasMembers, IsTaken, calls_over}

-- a call of a publisher that changes it, and finds memory
pub data Act : Type 0 where
  Adds : keys.MediaKeys → Act
  Removes : List ℕ → Act
  Publishes : Act

-- the publisher behind it
abbrev pub after_act : Publishing → Act → Publishing
after_act p (Adds k) = behind_add p k (answer_to p k)
after_act p (Removes association) =
    if holds (fold_ops p.accepted) association then accepting p (p.accepted ++ Remove association ∷ []) else p
after_act p Publishes = record { call = p.call; accepted = p.accepted; published = p.accepted }

abbrev pub after_acts : Publishing → List Act → Publishing
after_acts p [] = p
after_acts p (act ∷ acts) = after_acts (after_act p act) acts

-- what is asked for in them; it may publish wherever it likes
abbrev pub asked : List Act → List Call
asked [] = []
asked (Adds k ∷ acts) = AddCall k.association k.client k.server ∷ asked acts
asked (Removes association ∷ acts) = RemoveCall association ∷ asked acts
asked (Publishes ∷ acts) = asked acts

-- Each add answers New or Same.
abbrev pub AddsAreTaken : Publishing → List Act → Type 0
AddsAreTaken p [] = Unit {0}
AddsAreTaken p (Adds k ∷ acts) = IsTaken (answer_to p k) × AddsAreTaken (after_act p (Adds k)) acts
AddsAreTaken p (Removes association ∷ acts) = AddsAreTaken (after_act p (Removes association)) acts
AddsAreTaken p (Publishes ∷ acts) = AddsAreTaken (after_act p Publishes) acts

-- A new publisher is asked for what the events and their replies bring, in order. The events bring no fault, there are fewer than 65536
-- adds, and the keeper has no member at first. Then each add is taken, what it holds, what is pending counted, are the members with
-- their pairs, and behind a publishing these are what readers see.
abbrev pub MembersArePublished : Type 0
MembersArePublished =
    (a : Answers) (s : State) (events : List Event) (randoms : List ℕ) (p : Publishing) (acts : List Act)
    → s.lists.members ≡ [] → (run_of a s events randoms).fault ≡ None → p.accepted ≡ [] → asked acts ≡ calls_over a s events randoms
    → let after = after_acts p acts in length (adds after.accepted) < most_adds
    → AddsAreTaken p acts × HasMembers after.accepted (run_of a s events randoms).state.lists.members
    × HasMembers (after_act after Publishes).published (run_of a s events randoms).state.lists.members
