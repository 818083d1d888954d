-- Lines of octets: each ends with a line feed (10), which is no part of it; the last one may lack it. A reader of
-- lines holds octets that were read and not yet given.
use Rattle.std.specs.Prelude.{◌≡◌, ◌≢◌, ℕ, ◌+◌, ◌<◌, ◌≤◌, ◌⊎◌, Bool, true, false, ◌==◌, if◌then◌else◌, List, [], ◌∷◌, ◌++◌, length, Option, Result, Ok, Err, Contains, IfSome, IfOk, OnErr}
use Rattle.perc_base.specs.declared.outside.Failed.{Failed}
use Rattle.perc_base.specs.declared.lines.LineRead.{LineRead}
use Rattle.perc_base.specs.declared.lines.LineRead.TheVariants as read
use Rattle.perc_base.specs.Outside.{Reads}

-- x at the front of the first line
abbrev pub onto_first : ℕ → List (List ℕ) → List (List ℕ)
onto_first x [] = (x ∷ []) ∷ []
onto_first x (line ∷ lines) = (x ∷ line) ∷ lines

-- the lines of the octets
abbrev pub lines_of : List ℕ → List (List ℕ)
lines_of [] = []
lines_of (x ∷ octets) = if x == 10 then [] ∷ lines_of octets else onto_first x (lines_of octets)

-- how many octets a line may have
abbrev pub longest : ℕ
longest = 8192

-- what a reader of lines answers
pub data Found : Type 0 where
  Line : (octets : List ℕ) → Found
  Long : Found
  End : Found

abbrev pub found : LineRead → Found
found (read.Line octets) = Line octets.now
found read.Long = Long
found read.End = End

abbrev pub answered : Result LineRead Failed → Result Found Failed
answered (Ok line_read) = Ok (found line_read)
answered (Err e) = Err e

-- A reader that has these lines before it gives the first of them, or says that it is too long, or that there is
-- none, and then has those lines before it.
abbrev pub Gives : List (List ℕ) → Found → List (List ℕ) → Type 0
Gives [] End after = after ≡ []
Gives (line ∷ lines) (Line octets) after = (octets ≡ line) × (length line ≤ longest) × (after ≡ lines)
Gives (line ∷ lines) Long after = (longest < length line) × (after ≡ line ∷ lines)
Gives [] (Line octets) after = ⊥
Gives [] Long after = ⊥
Gives (line ∷ lines) End after = ⊥

-- what a reader of lines holds, and whether the source has ended
pub record Held : Type 0 where
  pub octets : List ℕ
  pub ended : Bool

-- the lines before a reader: those of what it holds, followed by what its source has left
abbrev pub lines_before : Held → List ℕ → List (List ℕ)
lines_before held left = lines_of (held.octets ++ (if held.ended then [] else left))

-- What is held decides the next answer, so the source isn't asked.
abbrev pub IsDecided : Held → Type 0
IsDecided held = (held.ended ≡ true) ⊎ (Contains held.octets 10 ⊎ (longest < length held.octets))

-- The reader, which held this and read these octets more, answered, and holds that now.
abbrev pub Advances : Held → List ℕ → Result Found Failed → Held → Type 0
-- a line ends with its line feed, or with the source
Advances old more (Ok (Line octets)) new =
    (length octets ≤ longest) × (Contains octets 10 → ⊥)
    × ((old.octets ++ more ≡ octets ++ 10 ∷ new.octets)
    ⊎ ((old.octets ++ more ≡ octets) × (octets ≢ []) × (new.octets ≡ []) × (new.ended ≡ true)))
-- a line of more than 8192 octets stays held
Advances old more (Ok Long) new =
    (old.octets ++ more ≡ new.octets) × (length new.octets ≡ longest + 1) × (Contains new.octets 10 → ⊥)
Advances old more (Ok End) new = (old.octets ++ more ≡ []) × (new.octets ≡ []) × (new.ended ≡ true)
-- After a failed read all stays held. What was held didn't decide an answer, and what is held now doesn't: no whole line is
-- among it, and no more was read than that takes.
Advances old more (Err e) new =
    (IsDecided old → ⊥) × (IsDecided new → ⊥) × (new.octets ≡ old.octets ++ more) × (new.ended ≡ false)

-- one call of the reader, from and to what it holds and what its source has left, where that is told
pub record Step (old : Held) (all : Option (List ℕ)) (answer : Result Found Failed) (new : Held) (left : Option (List ℕ)) : Type 0 where
  pub more : List ℕ
  pub reads : Reads all left more
  pub advances : Advances old more answer new
  -- what is held is used first
  pub decided : IsDecided old → more ≡ []
  -- the source has ended only where nothing is left of it
  pub ended : new.ended ≡ true → (old.ended ≡ true) ⊎ IfSome left (λ rest. rest ≡ [])
  -- an answer gives the first of the lines before the reader
  pub lines : IfSome all (λ before. IfSome left (λ after. IfOk answer (λ found. Gives (lines_before old before) found (lines_before new after))))
  pub kept : IfSome all (λ before. IfSome left (λ after. OnErr answer (lines_before new after ≡ lines_before old before)))
