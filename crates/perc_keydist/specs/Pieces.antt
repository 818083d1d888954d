-- That a stream is done the same in whatever pieces it is fed.
use Rattle.std.specs.Prelude.{◌≡◌, ℕ, ◌+◌, List, ◌++◌, Option, Some, Result, Ok, Err}
use Rattle.perc_keeper.specs.Lists.{Lists}
use Rattle.perc_keydist.specs.declared.fault.KdFault.{KdFault}
use Rattle.perc_keydist.specs.Answers.{Answers}
use Rattle.perc_keydist.specs.KeyDistributor.{FeedsSo, KeyDistributor}

-- what is answered behind n members that left before
abbrev pub added : ℕ → Result ℕ KdFault → Result ℕ KdFault
added n (Ok left) = Ok (n + left)
added n (Err e) = Err e

-- Two feeds, of which the first brought no fault, are one feed of both pieces.
abbrev pub TwoFeedsAreOne : Type 0
TwoFeedsAreOne =
    (k between now : KeyDistributor) (front back : List ℕ) (n : ℕ) (result : Result ℕ KdFault) (answers : Option Answers) (lists kept later : Option Lists)
    (randoms rest behind : Option (List ℕ)) (before written after : List ℕ) → between.profile ≡ k.profile
    → FeedsSo k front (Ok n) between answers lists kept randoms rest before written
    → FeedsSo between back result now answers kept later rest behind written after
    → FeedsSo k (front ++ back) (added n result) now answers lists later randoms behind before after

-- What two feeds of the same octets leave, which brought no fault, where the outside told the same before: members that left, kept
-- lists, randoms and replies are the same.
abbrev pub OneOutcome : Type 0
OneOutcome =
    (k now other : KeyDistributor) (octets : List ℕ) (n m : ℕ) (a : Answers) (l : Lists) (drawn : List ℕ) (kept others : Option Lists) (rest left : Option (List ℕ))
    (before after out : List ℕ) → FeedsSo k octets (Ok n) now (Some a) (Some l) kept (Some drawn) rest before after
    → FeedsSo k octets (Ok m) other (Some a) (Some l) others (Some drawn) left before out
    → (n ≡ m) × (kept ≡ others) × (rest ≡ left) × (after ≡ out) × (now.accepted ≡ other.accepted) × (now.decoding ≡ other.decoding)
