-- Equations on octets that are computed at each of the 256.
use borrow.Author.Tests.{ltb-true}
use Rattle.std.proofs.lemmas.List.{get_or-replicate}
use Rattle.std.proofs.Common.{ltb, replicate, Bool, true, ◌≡◌, ℕ, ◌<◌, List, map, sym, ◌∙◌, ap, arith, get_or}
use Rattle.std.specs.List.{range_with_len}
use Rattle.std.proofs.lemmas.List.FromFn.{get_or-map-range_with_len}

-- two functions that agree along a list of the numbers below n agree at each
pub same_along : (n : ℕ) (f g : ℕ → ℕ) → map f (range_with_len 0 n) ≡ map g (range_with_len 0 n) → (b : ℕ) → b < n → f b ≡ g b
same_along n f g same b in_range =
    sym (get_or-map-range_with_len f 0 n b b 0 in_range (omega arith))
    ∙ ap (λ (xs : List ℕ). get_or xs b 0) same
    ∙ get_or-map-range_with_len g 0 n b b 0 in_range (omega arith)

-- the same of all octets
pub same_octets : (f g : ℕ → ℕ) → map f (range_with_len 0 256) ≡ map g (range_with_len 0 256) → (b : ℕ) → b < 256 → f b ≡ g b
same_octets f g same b in_range = same_along 256 f g same b in_range

-- a function that gives octets along that list gives them at each
pub below_256 : (f : ℕ → ℕ) → map (λ b. ltb (f b) 256) (range_with_len 0 256) ≡ replicate 256 true → (b : ℕ) → b < 256 → f b < 256
below_256 f all b in_range =
    ltb-true (f b) 256 (sym (get_or-map-range_with_len (λ b. ltb (f b) 256) 0 256 b b true in_range (omega arith))
    ∙ ap (λ (xs : List Bool). get_or xs b true) all ∙ get_or-replicate 256 b true true in_range)
