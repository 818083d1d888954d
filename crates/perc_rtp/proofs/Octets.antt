-- Numbers and the octets that spell them.
use Rattle.std.proofs.Common.{◌≡◌, ℕ, zero, suc, ◌+◌, ◌*◌, ◌^◌, ◌<◌, ◌≤◌, List, [], ◌∷◌, ◌++◌, length, take, drop, get_or, refl, sym, ap, ◌∙◌, append_assoc, arith, inl, inr}
use Rattle.std.specs.List.{flat_map, All}
use Rattle.std.proofs.lemmas.Bool.{cases_lt}
use Rattle.std.proofs.lemmas.Nat.{be_bytes_2, be_bytes_4}
use Rattle.std.proofs.lemmas.List.{drop-drop, get_or-drop, get_or-take, get_or_past, length-take, length-drop, take-append-drop}
use Rattle.std.proofs.lemmas.List.Elements.{All-cons, All-nil, All-head, All-tail, All-from_get_or, All-get_or}
use Rattle.perc_octets.specs.Octets.{AreOctets}
use Rattle.perc_octets.proofs.Octets.{AreOctets-drop, AreOctets-take}
use Rattle.byteorder.specs.Endian.{big_bytes, big_number}
use Rattle.byteorder.specs.Numbers.{big_number-reads_back}
use Rattle.perc_rtp.specs.Header.{IsOctet}
use Rattle.perc_rtp.specs.Reading.{numbers}

pub AreOctets-all : (xs : List ℕ) → All IsOctet xs → AreOctets xs
AreOctets-all xs h i =
    elim (cases_lt i (length xs)) [
      | inl lt ↦ All-get_or IsOctet xs i 0 lt h
      | inr past ↦ rw (get_or_past xs i 0 past) (omega arith)
    ]

pub all_octets : (xs : List ℕ) → AreOctets xs → All IsOctet xs
all_octets xs h = All-from_get_or IsOctet xs 0 (λ i lt. h i)

-- two octets spell the number in them
pub two_spelled : (xs : List ℕ) → 2 ≤ length xs → AreOctets xs → (big_bytes 2 (big_number 2 xs) ≡ take 2 xs) × (big_number 2 xs < 2 ^ 16)
two_spelled [] h fits = absurd (omega arith)
two_spelled (a ∷ []) h fits = absurd (omega arith)
two_spelled (a ∷ b ∷ xs) h fits =
    let some : AreOctets (take 2 (a ∷ b ∷ xs)) = AreOctets-take 2 (a ∷ b ∷ xs) fits in
    let fa : a < 256 = fits 0 in
    let fb : b < 256 = fits 1 in
    (be_bytes_2 (a ∷ b ∷ []) (big_number 2 (a ∷ b ∷ xs)) refl some (omega arith), omega arith)

-- four octets spell the number in them
pub four_spelled : (xs : List ℕ) → 4 ≤ length xs → AreOctets xs → (big_bytes 4 (big_number 4 xs) ≡ take 4 xs) × (big_number 4 xs < 2 ^ 32)
four_spelled [] h fits = absurd (omega arith)
four_spelled (a ∷ []) h fits = absurd (omega arith)
four_spelled (a ∷ b ∷ []) h fits = absurd (omega arith)
four_spelled (a ∷ b ∷ c ∷ []) h fits = absurd (omega arith)
four_spelled (a ∷ b ∷ c ∷ d ∷ xs) h fits =
    let some : AreOctets (take 4 (a ∷ b ∷ c ∷ d ∷ xs)) = AreOctets-take 4 (a ∷ b ∷ c ∷ d ∷ xs) fits in
    let fa : a < 256 = fits 0 in
    let fb : b < 256 = fits 1 in
    let fc : c < 256 = fits 2 in
    let fd : d < 256 = fits 3 in
    (be_bytes_4 (a ∷ b ∷ c ∷ d ∷ []) (big_number 4 (a ∷ b ∷ c ∷ d ∷ xs)) refl some (omega arith), omega arith)

pub numbers-length : (n : ℕ) (xs : List ℕ) → length (numbers n xs) ≡ n
numbers-length zero xs = refl
numbers-length (suc n) xs = ap suc (numbers-length n (drop 4 xs))

-- the octets of n numbers spell them
pub numbers_spelled : (n : ℕ) (xs : List ℕ) → 4 * n ≤ length xs → AreOctets xs
    → (flat_map (big_bytes 4) (numbers n xs) ++ drop (4 * n) xs ≡ xs) × All (λ c. c < 2 ^ 32) (numbers n xs)
numbers_spelled zero xs h fits = (refl, All-nil (λ c. c < 2 ^ 32))
numbers_spelled (suc n) xs h fits =
    let one = four_spelled xs (omega arith) fits in
    let more = numbers_spelled n (drop 4 xs) (omega (arith, length-drop 4 xs)) (AreOctets-drop 4 xs fits) in
    let offset : 4 + 4 * n ≡ 4 * suc n = omega arith in
    let rest : drop (4 * n) (drop 4 xs) ≡ drop (4 * suc n) xs = drop-drop (4 * n) 4 xs ∙ ap (λ (k : ℕ). drop k xs) offset in
    let front = big_bytes 4 (big_number 4 xs) in
    let others : List ℕ = flat_map (big_bytes 4) (numbers n (drop 4 xs)) in (
      append_assoc front others (drop (4 * suc n) xs)
          ∙ ap (λ (r : List ℕ). front ++ (others ++ r)) (sym rest)
          ∙ ap (λ (r : List ℕ). front ++ r) more.0
          ∙ ap (λ (r : List ℕ). r ++ drop 4 xs) one.0
          ∙ take-append-drop 4 xs,
      All-cons (λ c. c < 2 ^ 32) (big_number 4 xs) (numbers n (drop 4 xs)) one.1 more.1,
    )

-- and the numbers are read from what spells them
pub numbers_again : (xs rest : List ℕ) → All (λ c. c < 2 ^ 32) xs → numbers (length xs) (flat_map (big_bytes 4) xs ++ rest) ≡ xs
numbers_again [] rest fits = refl
numbers_again (x ∷ xs) rest fits =
    let first : x < 2 ^ 32 = All-head (λ c. c < 2 ^ 32) x xs fits in
    let regrouped : flat_map (big_bytes 4) (x ∷ xs) ++ rest ≡ big_bytes 4 x ++ (flat_map (big_bytes 4) xs ++ rest) = append_assoc (big_bytes 4 x) (flat_map (big_bytes 4) xs) rest in
    let number : big_number 4 (flat_map (big_bytes 4) (x ∷ xs) ++ rest) ≡ x = ap (big_number 4) regrouped ∙ big_number-reads_back 4 x (flat_map (big_bytes 4) xs ++ rest) (omega arith) in
    let others : numbers (length xs) (drop 4 (flat_map (big_bytes 4) (x ∷ xs) ++ rest)) ≡ xs = numbers_again xs rest (All-tail (λ c. c < 2 ^ 32) x xs fits) in
    cc
