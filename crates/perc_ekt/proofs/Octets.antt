-- Numbers, the octets that spell them, and pieces of lists.
use Rattle.std.proofs.Common.{◌≡◌, ℕ, zero, suc, ◌+◌, ◌-◌, ◌^◌, ◌<◌, ◌≤◌, List, [], ◌∷◌, ◌++◌, length, take, drop, get_or, ⊎_elim, refl, sym, ap, ◌∙◌, arith}
use Rattle.std.specs.Int.{byte_at}
use Rattle.std.proofs.lemmas.Bool.{cases_lt}
use Rattle.std.proofs.lemmas.List.{drop-drop, drop_at, get_or-drop, get_or-take, get_or_past, length-append, length-take, take-append-drop}
use Rattle.perc_octets.specs.Octets.{AreOctets}
use Rattle.perc_octets.proofs.Octets.{AreOctets-cons, AreOctets-nil}
use Rattle.byteorder.specs.Endian.{big_bytes, big_number}

byte-octet : (k x : ℕ) → byte_at k x < 256
byte-octet zero x = omega arith
byte-octet (suc k) x = omega arith

pub AreOctets-bytes : (n x : ℕ) → AreOctets (big_bytes n x)
AreOctets-bytes zero x = AreOctets-nil
AreOctets-bytes (suc n) x = AreOctets-cons (byte_at n x) (big_bytes n x) (byte-octet n x) (AreOctets-bytes n x)

-- ---- octets spell the number in them

two_equal : (a b x y : ℕ) → a ≡ x → b ≡ y → ◌≡◌ {A = List ℕ} (a ∷ b ∷ []) (x ∷ y ∷ [])
two_equal a b x y e f = cc

three_equal : (a b c x y z : ℕ) → a ≡ x → b ≡ y → c ≡ z → ◌≡◌ {A = List ℕ} (a ∷ b ∷ c ∷ []) (x ∷ y ∷ z ∷ [])
three_equal a b c x y z e f g = cc

pub two_spelled : (xs : List ℕ) → 2 ≤ length xs → AreOctets xs → (big_bytes 2 (big_number 2 xs) ≡ take 2 xs) × (big_number 2 xs < 2 ^ 16)
two_spelled [] h fits = absurd (omega arith)
two_spelled (a ∷ []) h fits = absurd (omega arith)
two_spelled (a ∷ b ∷ xs) h fits =
    let fa : a < 256 = fits 0 in
    let fb : b < 256 = fits 1 in
    let n : ℕ = big_number 2 (a ∷ b ∷ xs) in
    (two_equal (byte_at 1 n) (byte_at 0 n) a b (omega arith) (omega arith), omega arith)

pub three_spelled : (xs : List ℕ) → 3 ≤ length xs → AreOctets xs → (big_bytes 3 (big_number 3 xs) ≡ take 3 xs) × (big_number 3 xs < 2 ^ 24)
three_spelled [] h fits = absurd (omega arith)
three_spelled (a ∷ []) h fits = absurd (omega arith)
three_spelled (a ∷ b ∷ []) h fits = absurd (omega arith)
three_spelled (a ∷ b ∷ c ∷ xs) h fits =
    let fa : a < 256 = fits 0 in
    let fb : b < 256 = fits 1 in
    let fc : c < 256 = fits 2 in
    let n : ℕ = big_number 3 (a ∷ b ∷ c ∷ xs) in
    (three_equal (byte_at 2 n) (byte_at 1 n) (byte_at 0 n) a b c (omega arith) (omega arith) (omega arith), omega arith)

four_equal : (a b c d x y z w : ℕ) → a ≡ x → b ≡ y → c ≡ z → d ≡ w → ◌≡◌ {A = List ℕ} (a ∷ b ∷ c ∷ d ∷ []) (x ∷ y ∷ z ∷ w ∷ [])
four_equal a b c d x y z w e f g h = cc

pub four_spelled : (xs : List ℕ) → 4 ≤ length xs → AreOctets xs → (big_bytes 4 (big_number 4 xs) ≡ take 4 xs) × (big_number 4 xs < 2 ^ 32)
four_spelled [] h fits = absurd (omega arith)
four_spelled (a ∷ []) h fits = absurd (omega arith)
four_spelled (a ∷ b ∷ []) h fits = absurd (omega arith)
four_spelled (a ∷ b ∷ c ∷ []) h fits = absurd (omega arith)
four_spelled (a ∷ b ∷ c ∷ d ∷ xs) h fits =
    let fa : a < 256 = fits 0 in
    let fb : b < 256 = fits 1 in
    let fc : c < 256 = fits 2 in
    let fd : d < 256 = fits 3 in
    let n : ℕ = big_number 4 (a ∷ b ∷ c ∷ d ∷ xs) in
    (four_equal (byte_at 3 n) (byte_at 2 n) (byte_at 1 n) (byte_at 0 n) a b c d (omega arith) (omega arith) (omega arith) (omega arith), omega arith)

-- ---- pieces

-- one piece, and what follows it
pub piece : (i k j : ℕ) (xs : List ℕ) → i + k ≡ j → take k (drop i xs) ++ drop j xs ≡ drop i xs
piece i k j xs e =
    ap (λ (m : ℕ). take k (drop i xs) ++ drop m xs) (sym e)
    ∙ ap (λ (r : List ℕ). take k (drop i xs) ++ r) (sym (drop-drop k i xs))
    ∙ take-append-drop k (drop i xs)

-- a piece that is spelled otherwise, and what follows it
pub piece_as : (i k j : ℕ) (w xs : List ℕ) → w ≡ take k (drop i xs) → i + k ≡ j → w ++ drop j xs ≡ drop i xs
piece_as i k j w xs is e = ap (λ (r : List ℕ). r ++ drop j xs) is ∙ piece i k j xs e

-- the last number
pub last_piece : (i : ℕ) (xs : List ℕ) → i + 1 ≡ length xs → drop i xs ≡ get_or xs i 0 ∷ []
last_piece zero [] e = absurd (omega arith)
last_piece zero (x ∷ []) e = refl
last_piece zero (x ∷ y ∷ xs) e = absurd (omega arith)
last_piece (suc i) [] e = absurd (omega arith)
last_piece (suc i) (x ∷ xs) e = last_piece i xs (omega arith)

-- what stands at the end
pub behind : (w r xs : List ℕ) (k : ℕ) → xs ≡ w ++ r → length r ≡ k → drop (length xs - k) xs ≡ r
behind w r xs k is len =
    let size : length xs ≡ length w + length r = ap length is ∙ length-append w r in
    ap (drop (length xs - k)) is ∙ drop_at w r (length xs - k) (omega arith)

-- the number at the end
pub last_number : (w xs : List ℕ) (x : ℕ) → xs ≡ w ++ (x ∷ []) → get_or xs (length xs - 1) 0 ≡ x
last_number w xs x is =
    let last : length xs - 1 + 0 ≡ length xs - 1 = omega arith in
    ap (λ (i : ℕ). get_or xs i 0) (sym last) ∙ sym (get_or-drop (length xs - 1) xs 0 0) ∙ ap (λ (r : List ℕ). get_or r 0 0) (behind w (x ∷ []) xs 1 is refl)
