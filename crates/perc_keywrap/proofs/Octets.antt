-- Lists of octets and their parts.
use Rattle.std.proofs.Common.{◌≡◌, ℕ, zero, suc, ◌+◌, ◌-◌, ◌*◌, ◌<◌, ◌≤◌, List, ◌++◌, length, get_or, take, drop, replicate, ⊎_elim, refl, sym, ◌∙◌, ap, arith, append_assoc, length-append}
use Rattle.perc_octets.specs.Octets.{AreOctets}
use Rattle.std.specs.Int.{byte_at, bytes_high_first}
use Rattle.std.proofs.lemmas.Bool.{cases_lt}
use Rattle.std.proofs.lemmas.List.{get_or_append_left, get_or-append_right, get_or-take, get_or-drop, get_or_past, length-take, take_at, drop_at, take-append-drop, drop-drop}

zeros_at : (n k : ℕ) → get_or (replicate n 0) k 0 < 256
zeros_at zero k = omega arith
zeros_at (suc n) zero = omega arith
zeros_at (suc n) (suc k) = zeros_at n k

pub octets-zeros : (n : ℕ) → AreOctets (replicate n 0)
octets-zeros n = zeros_at n

byte_small : (i n : ℕ) → byte_at i n < 256
byte_small zero n = omega arith
byte_small (suc i) n = omega arith

high_first_at : (w n k : ℕ) → get_or (bytes_high_first w n) k 0 < 256
high_first_at zero n k = omega arith
high_first_at (suc w) n zero = byte_small w n
high_first_at (suc w) n (suc k) = high_first_at w n k

pub octets-high_first : (w n : ℕ) → AreOctets (bytes_high_first w n)
octets-high_first w n = high_first_at w n

-- ---- four parts, of which the first and the third have 8 octets, and the second ends at 8 * i

pub part_1 : (a p r q : List ℕ) → length a ≡ 8 → take 8 (a ++ p ++ r ++ q) ≡ a
part_1 a p r q size = rw (append_assoc (a ++ p) r q, append_assoc a p (r ++ q)) (take_at a (p ++ (r ++ q)) 8 size)

pub part_2 : (a p r q : List ℕ) (i : ℕ) → length a ≡ 8 → length p ≡ 8 * i - 8 → take (8 * i - 8) (drop 8 (a ++ p ++ r ++ q)) ≡ p
part_2 a p r q i size size_p =
    rw (append_assoc (a ++ p) r q, append_assoc a p (r ++ q), drop_at a (p ++ (r ++ q)) 8 size)
    (take_at p (r ++ q) (8 * i - 8) size_p)

pub part_3 : (a p r q : List ℕ) (i : ℕ) → 1 ≤ i → length a ≡ 8 → length p ≡ 8 * i - 8 → length r ≡ 8 → take 8 (drop (8 * i) (a ++ p ++ r ++ q)) ≡ r
part_3 a p r q i some size size_p size_r =
    rw (append_assoc (a ++ p) r q, drop_at (a ++ p) (r ++ q) (8 * i) (omega (arith, length-append a p)))
    (take_at r q 8 size_r)

pub part_4 : (a p r q : List ℕ) (i : ℕ) → 1 ≤ i → length a ≡ 8 → length p ≡ 8 * i - 8 → length r ≡ 8 → drop (8 * i + 8) (a ++ p ++ r ++ q) ≡ q
part_4 a p r q i some size size_p size_r =
    drop_at (a ++ p ++ r) q (8 * i + 8) (omega (arith, length-append (a ++ p) r, length-append a p))

-- a list is its parts
pub parts : (s : List ℕ) (i : ℕ) → 1 ≤ i → take 8 s ++ take (8 * i - 8) (drop 8 s) ++ take 8 (drop (8 * i) s) ++ drop (8 * i + 8) s ≡ s
parts s i some =
    let at_i : 8 + (8 * i - 8) ≡ 8 * i = omega arith in
    let rest : drop (8 * i - 8) (drop 8 s) ≡ drop (8 * i) s = drop-drop (8 * i - 8) 8 s ∙ ap (λ (n : ℕ). drop n s) at_i in
    let last : drop 8 (drop (8 * i) s) ≡ drop (8 * i + 8) s = drop-drop 8 (8 * i) s in
    append_assoc (take 8 s ++ take (8 * i - 8) (drop 8 s)) (take 8 (drop (8 * i) s)) (drop (8 * i + 8) s)
    ∙ append_assoc (take 8 s) (take (8 * i - 8) (drop 8 s)) (take 8 (drop (8 * i) s) ++ drop (8 * i + 8) s)
    ∙ ap (λ (x : List ℕ). take 8 s ++ (take (8 * i - 8) (drop 8 s) ++ (take 8 (drop (8 * i) s) ++ x))) (sym last)
    ∙ ap (λ (x : List ℕ). take 8 s ++ (take (8 * i - 8) (drop 8 s) ++ x)) (take-append-drop 8 (drop (8 * i) s) ∙ sym rest)
    ∙ ap (λ (x : List ℕ). take 8 s ++ x) (take-append-drop (8 * i - 8) (drop 8 s))
    ∙ take-append-drop 8 s
