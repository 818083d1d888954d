-- Lists that are put together, or taken apart, from one place to the next.
use Rattle.std.proofs.Common.{◌≡◌, ℕ, ◌+◌, ◌<◌, ◌≤◌, List, ◌∷◌, ◌++◌, length, take, drop, get_or, sym, ap, ◌∙◌, arith, append_assoc}
use Rattle.std.proofs.lemmas.List.{drop_more, drop-drop, take_at, drop_at, take-append-drop, take_all, get_or-drop, length-drop}

-- ---- putting together

-- an octet, and what stands behind it
pub cons_at : (xs : List ℕ) (i j y : ℕ) (ys : List ℕ) → j ≡ i + 1 → i < length xs → get_or xs i 0 ≡ y → ys ≡ drop j xs → y ∷ ys ≡ drop i xs
cons_at xs i j y ys next lt is rest =
    ap (λ (z : ℕ). z ∷ ys) (sym is) ∙ ap (λ (r : List ℕ). get_or xs i 0 ∷ r) (rest ∙ ap (λ (k : ℕ). drop k xs) next) ∙ sym (drop_more xs i 0 lt)

-- k octets, and what stands behind them
pub piece_at : (xs : List ℕ) (i k j : ℕ) (ys : List ℕ) → j ≡ i + k → ys ≡ drop j xs → take k (drop i xs) ++ ys ≡ drop i xs
piece_at xs i k j ys next rest =
    ap (λ (r : List ℕ). take k (drop i xs) ++ r) (rest ∙ ap (λ (n : ℕ). drop n xs) next ∙ sym (drop-drop k i xs)) ∙ take-append-drop k (drop i xs)

-- the last k octets
pub last_at : (xs : List ℕ) (i k : ℕ) → length xs ≤ i + k → take k (drop i xs) ≡ drop i xs
last_at xs i k all = take_all k (drop i xs) (omega (arith, length-drop i xs))

-- ---- taking apart

pub octet_at : (xs : List ℕ) (i y : ℕ) (ys : List ℕ) → drop i xs ≡ y ∷ ys → get_or xs i 0 ≡ y
octet_at xs i y ys is =
    let same : i ≡ i + 0 = omega arith in
    ap (λ (k : ℕ). get_or xs k 0) same ∙ sym (get_or-drop i xs 0 0) ∙ ap (λ (r : List ℕ). get_or r 0 0) is

pub behind_octet : (xs : List ℕ) (i j y : ℕ) (ys : List ℕ) → j ≡ i + 1 → drop i xs ≡ y ∷ ys → drop j xs ≡ ys
behind_octet xs i j y ys next is = ap (λ (k : ℕ). drop k xs) next ∙ sym (drop-drop 1 i xs) ∙ ap (drop 1) is

pub behind_piece : (xs : List ℕ) (i k j : ℕ) (p ys : List ℕ) → j ≡ i + k → length p ≡ k → drop i xs ≡ p ++ ys → drop j xs ≡ ys
behind_piece xs i k j p ys next len is = ap (λ (n : ℕ). drop n xs) next ∙ sym (drop-drop k i xs) ∙ ap (drop k) is ∙ drop_at p ys k len

pub piece_is : (xs : List ℕ) (i k : ℕ) (p ys : List ℕ) → length p ≡ k → drop i xs ≡ p ++ ys → take k (drop i xs) ≡ p
piece_is xs i k p ys len is = ap (take k) is ∙ take_at p ys k len

-- ---- grouping

pub three_parts : (a b c : List ℕ) → a ++ b ++ c ≡ a ++ (b ++ c)
three_parts a b c = append_assoc a b c

pub seven_parts : (a b c d e f g : List ℕ) → a ++ b ++ c ++ d ++ e ++ f ++ g ≡ a ++ (b ++ (c ++ (d ++ (e ++ (f ++ g)))))
seven_parts a b c d e f g = simp append_assoc
