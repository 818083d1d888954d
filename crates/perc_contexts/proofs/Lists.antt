-- Lists of live SPIs and of contexts.
use Rattle.std.proofs.Common.{◌≡◌, ◌-◌, List, [], ◌∷◌, length, Option, Some, None, refl, arith, sub-one}
use Rattle.std.specs.Prelude.{slice_get, Contains}
use Rattle.std.specs.List.{last_or}

last_at : {X : Type 0} (o : Option X) (x : X) (xs : List X) → slice_get (x ∷ xs) (length xs) ≡ last_or o (x ∷ xs)
last_at o x [] = refl
last_at o x (y ∷ ys) = last_at (Some x) y ys

pub last_is : {X : Type 0} (xs : List X) → slice_get xs (length xs - 1) ≡ last_or None xs
last_is [] = refl
last_is (x ∷ xs) = rw sub-one (last_at None x xs)

pub first-contained : {X : Type 0} (xs : List X) (x : X) → Some x ≡ slice_get xs 0 → Contains xs x
first-contained [] x e = absurd (cc)
first-contained (y ∷ xs) x e = (0, omega arith, cc)
