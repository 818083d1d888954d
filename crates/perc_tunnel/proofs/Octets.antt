-- Numbers of two octets, and lists of them.
use Rattle.std.proofs.Common.{◌≡◌, ℕ, zero, suc, ◌+◌, ◌*◌, ◌/◌, ◌%◌, ◌^◌, ◌<◌, List, [], ◌∷◌, ◌++◌, length, drop, get_or, refl, sym, ap, ◌∙◌, arith}
use Rattle.std.specs.List.{flat_map, All}
use Rattle.std.proofs.lemmas.List.{get_or-drop}
use Rattle.std.proofs.lemmas.List.Elements.{All-cons, All-nil, All-head, All-tail}
use Rattle.byteorder.specs.Endian.{big_bytes, big_number}
use Rattle.perc_octets.specs.Octets.{AreOctets}
use Rattle.perc_octets.proofs.Octets.{AreOctets-append, AreOctets-cons, AreOctets-nil}
use Rattle.perc_tunnel.specs.Numbers.{numbers_in}

abbrev pub AreNumbers : List ℕ → Type 0
AreNumbers = All (λ x. x < 2 ^ 16)

pub two_octets : (x : ℕ) → AreOctets (big_bytes 2 x)
two_octets x =
    AreOctets-cons (x / 256 % 256) (x % 256 ∷ []) (omega arith) (AreOctets-cons (x % 256) [] (omega arith) AreOctets-nil)

-- two octets spell the number in them
pub number_spelled : (a b : ℕ) → a < 256 → b < 256 → big_bytes 2 (256 * a + b) ≡ a ∷ b ∷ []
number_spelled a b ha hb =
    let high : (256 * a + b) / 256 % 256 ≡ a = omega arith in
    let low : (256 * a + b) % 256 ≡ b = omega arith in
    ap (λ (h : ℕ). h ∷ (256 * a + b) % 256 ∷ []) high ∙ ap (λ (l : ℕ). a ∷ l ∷ []) low

pub numbers-length : (xs : List ℕ) → length xs % 2 ≡ 0 → 2 * length (numbers_in xs) ≡ length xs
numbers-length [] even = refl
numbers-length (a ∷ []) even = absurd (omega arith)
numbers-length (a ∷ b ∷ xs) even =
    let rest = numbers-length xs (omega arith) in omega arith

pub numbers_spelled : (xs : List ℕ) → length xs % 2 ≡ 0 → AreOctets xs → flat_map (big_bytes 2) (numbers_in xs) ≡ xs
numbers_spelled [] even fits = refl
numbers_spelled (a ∷ []) even fits = absurd (omega arith)
numbers_spelled (a ∷ b ∷ xs) even fits =
    let rest = numbers_spelled xs (omega arith) (λ k. fits (suc (suc k))) in
    let one = number_spelled a b (fits 0) (fits 1) in
    ap (λ (r : List ℕ). r ++ flat_map (big_bytes 2) (numbers_in xs)) one ∙ ap (λ (r : List ℕ). a ∷ b ∷ r) rest

pub numbers_fit : (xs : List ℕ) → AreOctets xs → AreNumbers (numbers_in xs)
numbers_fit [] fits = All-nil (λ x. x < 2 ^ 16)
numbers_fit (a ∷ []) fits = All-nil (λ x. x < 2 ^ 16)
numbers_fit (a ∷ b ∷ xs) fits =
    let ha : a < 256 = fits 0 in
    let hb : b < 256 = fits 1 in
    All-cons (λ x. x < 2 ^ 16) (256 * a + b) (numbers_in xs) (omega arith) (numbers_fit xs (λ k. fits (suc (suc k))))

pub numbers_again : (xs : List ℕ) → AreNumbers xs → numbers_in (flat_map (big_bytes 2) xs) ≡ xs
numbers_again [] fits = refl
numbers_again (x ∷ xs) fits =
    let small : x < 2 ^ 16 = All-head (λ x. x < 2 ^ 16) x xs fits in
    let one : 256 * (x / 256 % 256) + x % 256 ≡ x = omega arith in
    let rest = numbers_again xs (All-tail (λ x. x < 2 ^ 16) x xs fits) in
    ap (λ (n : ℕ). n ∷ numbers_in (flat_map (big_bytes 2) xs)) one ∙ ap (λ (r : List ℕ). x ∷ r) rest

pub flat-length : (xs : List ℕ) → length (flat_map (big_bytes 2) xs) ≡ 2 * length xs
flat-length [] = refl
flat-length (x ∷ xs) = omega (arith, flat-length xs)

pub flat_octets : (xs : List ℕ) → AreOctets (flat_map (big_bytes 2) xs)
flat_octets [] = AreOctets-nil
flat_octets (x ∷ xs) = AreOctets-append (big_bytes 2 x) (flat_map (big_bytes 2) xs) (two_octets x) (flat_octets xs)

number_at : (xs : List ℕ) (i : ℕ) → i < length (numbers_in xs) → get_or (numbers_in xs) i 0 ≡ 256 * get_or xs (2 * i) 0 + get_or xs (2 * i + 1) 0
number_at [] i lt = absurd (omega arith)
number_at (a ∷ []) i lt = absurd (omega arith)
number_at (a ∷ b ∷ xs) zero lt = refl
number_at (a ∷ b ∷ xs) (suc i) lt =
    let rest = number_at xs i (omega arith) in
    let first : 2 * suc i ≡ suc (suc (2 * i)) = omega arith in
    let second : 2 * suc i + 1 ≡ suc (suc (2 * i + 1)) = omega arith in
    rest ∙ ap (λ (k : ℕ). 256 * get_or (a ∷ b ∷ xs) k 0 + get_or xs (2 * i + 1) 0) (sym first)
    ∙ ap (λ (k : ℕ). 256 * get_or (a ∷ b ∷ xs) (2 * suc i) 0 + get_or (a ∷ b ∷ xs) k 0) (sym second)

-- number i is in the octets from 2 i on
pub number_in : (xs : List ℕ) (i : ℕ) → i < length (numbers_in xs) → big_number 2 (drop (2 * i) xs) ≡ get_or (numbers_in xs) i 0
number_in xs i lt =
    let high = get_or-drop (2 * i) xs 0 0 in
    let low = get_or-drop (2 * i) xs 1 0 in
    let at = number_at xs i lt in
    let same : get_or xs (2 * i + 0) 0 ≡ get_or xs (2 * i) 0 = let e : 2 * i + 0 ≡ 2 * i = omega arith in ap (λ (k : ℕ). get_or xs k 0) e in
    omega (arith, high, low, at, same)
