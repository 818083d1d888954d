-- Parts of lists of octets are lists of octets.
use Rattle.std.proofs.Common.{ℕ, zero, suc, ◌+◌, ◌-◌, ◌<◌, ◌≤◌, List, [], ◌∷◌, ◌++◌, length, take, drop, ⊎_elim, refl, arith}
use Rattle.std.proofs.lemmas.Bool.{cases_lt}
use Rattle.std.proofs.lemmas.List.{get_or_append_left, get_or-append_right, get_or-drop, get_or-take, get_or_past, length-take}
use Rattle.perc_octets.specs.Octets.{AreOctets}

pub AreOctets-nil : AreOctets []
AreOctets-nil k = omega arith

pub AreOctets-cons : (x : ℕ) (xs : List ℕ) → x < 256 → AreOctets xs → AreOctets (x ∷ xs)
AreOctets-cons x xs is fits zero = is
AreOctets-cons x xs is fits (suc k) = fits k

pub AreOctets-append : (xs ys : List ℕ) → AreOctets xs → AreOctets ys → AreOctets (xs ++ ys)
AreOctets-append xs ys p q k =
    ⊎_elim (λ (inside : k < length xs). rw (get_or_append_left xs ys 0 k inside) (p k))
    (λ (past : length xs ≤ k). rw (get_or-append_right xs ys (length xs) k 0 refl past) (q (k - length xs)))
    (cases_lt k (length xs))

pub AreOctets-drop : (n : ℕ) (xs : List ℕ) → AreOctets xs → AreOctets (drop n xs)
AreOctets-drop n xs fits k = rw get_or-drop (fits (n + k))

pub AreOctets-take : (n : ℕ) (xs : List ℕ) → AreOctets xs → AreOctets (take n xs)
AreOctets-take n xs fits k =
    ⊎_elim (λ (inside : k < n). rw (get_or-take n xs k 0 inside) (fits k))
    (λ (past : n ≤ k). rw (get_or_past (take n xs) k 0 (omega (arith, length-take n xs))) (omega arith))
    (cases_lt k n)
