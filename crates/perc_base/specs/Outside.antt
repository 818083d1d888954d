-- What calls on the outside do to what an object holds, where it tells that, and to its count of failed calls. An
-- object that doesn't tell what it holds doesn't begin to.
use Rattle.std.specs.Prelude.{◌≡◌, ℕ, ◌+◌, ◌-◌, ◌^◌, ◌<◌, ◌≤◌, min, List, [], ◌++◌, length, take, drop, replicate, Option, Some, None}

-- the count after one more failed call; it stands still at the end of its type
abbrev pub one_more : ℕ → ℕ
one_more count = min (count + 1) (2 ^ 64 - 1)

-- The count has risen.
abbrev pub HasRisen : ℕ → ℕ → Type 0
HasRisen before now = one_more before ≤ now

-- A read took n octets from the front of what is left, into the front of the buffer. It takes none only where the
-- buffer has no room, or nothing is left.
abbrev pub TakesFront : Option (List ℕ) → Option (List ℕ) → List ℕ → List ℕ → ℕ → Type 0
TakesFront None left buffer after n = left ≡ None
TakesFront (Some all) left buffer after n =
    (n ≤ length all) × (left ≡ Some (drop n all)) × (after ≡ take n all ++ drop n buffer) × (n ≡ 0 → 0 < length buffer → all ≡ [])

-- a write appended the first n octets of the piece
abbrev pub AppendsFront : Option (List ℕ) → Option (List ℕ) → List ℕ → ℕ → Type 0
AppendsFront None now piece n = now ≡ None
AppendsFront (Some before) now piece n = now ≡ Some (before ++ take n piece)

-- these octets were read: what was left is they, followed by what is left now
abbrev pub Reads : Option (List ℕ) → Option (List ℕ) → List ℕ → Type 0
Reads None left read = left ≡ None
Reads (Some all) left read = (rest : List ℕ) × (all ≡ read ++ rest) × (left ≡ Some rest)

-- the next n octets: those at the front of what is left, with zeros past its end
abbrev pub drawn : ℕ → List ℕ → List ℕ
drawn n left = take n left ++ replicate (n - length left) 0

-- the buffer was filled with the next octets, and what is left is the rest
abbrev pub Fills : Option (List ℕ) → Option (List ℕ) → List ℕ → List ℕ → Type 0
Fills None left buffer after = left ≡ None
Fills (Some all) left buffer after = (after ≡ drawn (length buffer) all) × (left ≡ Some (drop (length buffer) all))
