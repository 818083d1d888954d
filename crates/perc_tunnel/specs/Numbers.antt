-- Numbers of two octets each, the high one first.
use Rattle.std.specs.Prelude.{ℕ, ◌+◌, ◌*◌, List, [], ◌∷◌}

-- the numbers that octets spell
abbrev pub numbers_in : List ℕ → List ℕ
numbers_in [] = []
numbers_in (high ∷ []) = []
numbers_in (high ∷ low ∷ octets) = (256 * high + low) ∷ numbers_in octets
