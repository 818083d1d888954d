-- Words and states by their octets.
use Rattle.std.proofs.Common.{◌≡◌, ℕ, zero, suc, ◌+◌, ◌-◌, ◌*◌, ◌/◌, ◌%◌, ◌^◌, ◌<◌, List, [], ◌∷◌, ◌++◌, map, slice_index, get_or, bit_xor, bit_or, bit_and, refl, ◌∙◌, ap, arith}
use Rattle.std.specs.Int.{w32, to_be_bytes, from_be_bytes, rotate_left, rotate_right}
use Rattle.std.specs.Int.Bits.{xor_zero_r, xor_assoc}
use Rattle.std.proofs.lemmas.Nat.{xor_shr, xor_mod, or_comm, or_shifted, and_mask}
use Rattle.perc_aes.specs.Field.{total}
use Rattle.perc_aes.specs.Cipher.{add_round_key, add_words, mix_columns, mix_matrix, rotate_word, shift_rows, sub_bytes, sub_octet, word_at, word_from}
use Rattle.perc_aes.specs.Words.{diagonal, octets_of, octets_of_word, octets_of_words, sum_of_four, times_column, turned_sum}
use Rattle.perc_aes.specs.Inverse.{inverse_mix_columns, inverse_shift_rows, inverse_sub_bytes, inverse_sub_octet, unmix_matrix}
use Rattle.perc_aes.specs.declared.state.State.{State}

-- four octets, each by an equation
pub same_four : (a b c d a' b' c' d' : ℕ) → a ≡ a' → b ≡ b' → c ≡ c' → d ≡ d' → (a ∷ b ∷ c ∷ d ∷ []) ≡ (a' ∷ b' ∷ c' ∷ d' ∷ [])
same_four a b c d a' b' c' d' p q r s = rw (p, q, r, s) refl

-- four words, each by an equation
pub same_words : (p q r s p' q' r' s' : List ℕ) → p ≡ p' → q ≡ q' → r ≡ r' → s ≡ s' → p ++ (q ++ (r ++ (s ++ []))) ≡ p' ++ (q' ++ (r' ++ (s' ++ [])))
same_words p q r s p' q' r' s' e f g h = rw (e, f, g, h) refl

-- ---- words

-- an octet of a sum
octet_xor : (x y k : ℕ) → bit_xor x y / 2 ^ k % 2 ^ 8 ≡ bit_xor (x / 2 ^ k % 2 ^ 8) (y / 2 ^ k % 2 ^ 8)
octet_xor x y k = ap (λ (n : ℕ). n % 2 ^ 8) (xor_shr x y k) ∙ xor_mod (x / 2 ^ k) (y / 2 ^ k) 8

pub word_xor : (x y : ℕ) → octets_of_word (bit_xor x y) ≡ add_words (octets_of_word x) (octets_of_word y)
unfolding octets_of_word
word_xor x y = same_four _ _ _ _ _ _ _ _ (octet_xor x y 24) (octet_xor x y 16) (octet_xor x y 8) (xor_mod x y 8)

-- the number of four octets has these
pub word_of_four : (a b c d n : ℕ) → a < 256 → b < 256 → c < 256 → d < 256 → n ≡ from_be_bytes w32 (a ∷ b ∷ c ∷ d ∷ []) → octets_of_word n ≡ a ∷ b ∷ c ∷ d ∷ []
unfolding octets_of_word
word_of_four a b c d n in_a in_b in_c in_d is =
    same_four _ _ _ _ _ _ _ _ (omega (arith, is)) (omega (arith, is)) (omega (arith, is)) (omega (arith, is))

-- word i of octets, as the code reads it
pub word_at_is : (octets : List ℕ) (i n : ℕ) → ((k : ℕ) → get_or octets k 0 < 256)
    → n ≡ from_be_bytes w32 (get_or octets (4 * i) 0 ∷ get_or octets (4 * i + 1) 0 ∷ get_or octets (4 * i + 2) 0 ∷ get_or octets (4 * i + 3) 0 ∷ [])
    → octets_of_word n ≡ word_at octets i
word_at_is octets i n in_range is =
    let first : 4 * i + 0 ≡ 4 * i = omega arith in
    word_of_four (get_or octets (4 * i) 0) (get_or octets (4 * i + 1) 0) (get_or octets (4 * i + 2) 0) (get_or octets (4 * i + 3) 0) n (in_range (4 * i)) (in_range (4 * i + 1)) (in_range (4 * i + 2)) (in_range (4 * i + 3)) is
    ∙ rw first refl

-- a word whose first octet alone is not 0
pub first_octet : (x : ℕ) → x < 256 → octets_of_word (x * 2 ^ 24 % 2 ^ 32) ≡ x ∷ 0 ∷ 0 ∷ 0 ∷ []
unfolding octets_of_word
first_octet x in_range = same_four _ _ _ _ _ _ _ _ (omega arith) (omega arith) (omega arith) (omega arith)

-- an octet, as the code cuts it out
pub octet_is : (n place : ℕ) → n < 2 ^ 32 → place < 4 → bit_and (n / 2 ^ (24 - 8 * place)) 255 ≡ slice_index (octets_of_word n) place
unfolding octets_of_word
octet_is n zero fits within = and_mask (n / 2 ^ 24) 8
octet_is n (suc zero) fits within = and_mask (n / 2 ^ 16) 8
octet_is n (suc (suc zero)) fits within = and_mask (n / 2 ^ 8) 8
octet_is n (suc (suc (suc zero))) fits within = and_mask (n / 2 ^ 0) 8 ∙ omega arith
octet_is n (suc (suc (suc (suc place)))) fits within = absurd (omega arith)

-- a word turned left by so many octets
abbrev turned : List ℕ → ℕ → List ℕ
turned word by = word_from (λ k. slice_index word ((k + by) % 4))

-- what the code turns right
turned_8 : (n : ℕ) → n < 2 ^ 32 → octets_of_word (rotate_right w32 n 8) ≡ turned (octets_of_word n) 3
unfolding octets_of_word
turned_8 n fits =
    let low : n * 2 ^ 24 % 2 ^ 32 ≡ n % 2 ^ 8 * 2 ^ 24 = omega arith in
    let e : rotate_right w32 n 8 ≡ n % 2 ^ 8 * 2 ^ 24 + n / 2 ^ 8 =
    or_comm (n / 2 ^ 8) (n * 2 ^ 24 % 2 ^ 32) ∙ ap (λ (m : ℕ). bit_or m (n / 2 ^ 8)) low ∙ or_shifted (n % 2 ^ 8) 24 (n / 2 ^ 8) (omega arith) in
    ap (λ (m : ℕ). to_be_bytes w32 m) e ∙ same_four _ _ _ _ _ _ _ _ (omega arith) (omega arith) (omega arith) (omega arith)

turned_16 : (n : ℕ) → n < 2 ^ 32 → octets_of_word (rotate_right w32 n 16) ≡ turned (octets_of_word n) 2
unfolding octets_of_word
turned_16 n fits =
    let low : n * 2 ^ 16 % 2 ^ 32 ≡ n % 2 ^ 16 * 2 ^ 16 = omega arith in
    let e : rotate_right w32 n 16 ≡ n % 2 ^ 16 * 2 ^ 16 + n / 2 ^ 16 =
    or_comm (n / 2 ^ 16) (n * 2 ^ 16 % 2 ^ 32) ∙ ap (λ (m : ℕ). bit_or m (n / 2 ^ 16)) low ∙ or_shifted (n % 2 ^ 16) 16 (n / 2 ^ 16) (omega arith) in
    ap (λ (m : ℕ). to_be_bytes w32 m) e ∙ same_four _ _ _ _ _ _ _ _ (omega arith) (omega arith) (omega arith) (omega arith)

turned_24 : (n : ℕ) → n < 2 ^ 32 → octets_of_word (rotate_right w32 n 24) ≡ turned (octets_of_word n) 1
unfolding octets_of_word
turned_24 n fits =
    let low : n * 2 ^ 8 % 2 ^ 32 ≡ n % 2 ^ 24 * 2 ^ 8 = omega arith in
    let e : rotate_right w32 n 24 ≡ n % 2 ^ 24 * 2 ^ 8 + n / 2 ^ 24 =
    or_comm (n / 2 ^ 24) (n * 2 ^ 8 % 2 ^ 32) ∙ ap (λ (m : ℕ). bit_or m (n / 2 ^ 24)) low ∙ or_shifted (n % 2 ^ 24) 8 (n / 2 ^ 24) (omega arith) in
    ap (λ (m : ℕ). to_be_bytes w32 m) e ∙ same_four _ _ _ _ _ _ _ _ (omega arith) (omega arith) (omega arith) (omega arith)

-- to turn left by one octet is to turn right by three
pub turned_left : (n : ℕ) → n < 2 ^ 32 → octets_of_word (rotate_left w32 n 8) ≡ rotate_word (octets_of_word n)
turned_left n fits =
    ap octets_of_word (or_comm (n * 2 ^ 8 % 2 ^ 32) (n / 2 ^ 24)) ∙ turned_24 n fits

-- four octets, as the code adds them
add_left : (p q r s : ℕ) → bit_xor (bit_xor (bit_xor p q) r) s ≡ total (p ∷ q ∷ r ∷ s ∷ [])
add_left p q r s = rw (xor_zero_r s, xor_assoc p q r, xor_assoc p (bit_xor q r) s, xor_assoc q r s) refl

-- four words, as the code adds them
sum_of_words : (p q r s : ℕ) (v w x : List ℕ) → octets_of_word q ≡ v → octets_of_word r ≡ w → octets_of_word s ≡ x
    → octets_of_word (bit_xor (bit_xor (bit_xor p q) r) s) ≡ add_words (add_words (add_words (octets_of_word p) v) w) x
sum_of_words p q r s v w x q_is r_is s_is =
    rw (← q_is, ← r_is, ← s_is)
    (word_xor (bit_xor (bit_xor p q) r) s
    ∙ ap (λ (y : List ℕ). add_words y (octets_of_word s)) (word_xor (bit_xor p q) r)
    ∙ ap (λ (y : List ℕ). add_words (add_words y (octets_of_word r)) (octets_of_word s)) (word_xor p q))

add_three : (p q r s : List ℕ) → add_words (add_words (add_words p q) r) s ≡ word_from (λ k. total (slice_index p k ∷ slice_index q k ∷ slice_index r k ∷ slice_index s k ∷ []))
add_three p q r s =
    let at : (k : ℕ) → bit_xor (bit_xor (bit_xor (get_or p k 0) (get_or q k 0)) (get_or r k 0)) (get_or s k 0) ≡ total (get_or p k 0 ∷ get_or q k 0 ∷ get_or r k 0 ∷ get_or s k 0 ∷ []) =
    λ k. add_left (get_or p k 0) (get_or q k 0) (get_or r k 0) (get_or s k 0) in
    same_four _ _ _ _ _ _ _ _ (at 0) (at 1) (at 2) (at 3)

pub sum_of_four_is : (p q r s : ℕ) → octets_of_word (bit_xor (bit_xor (bit_xor p q) r) s) ≡ sum_of_four (octets_of_word p) (octets_of_word q) (octets_of_word r) (octets_of_word s)
sum_of_four_is p q r s =
    sum_of_words p q r s (octets_of_word q) (octets_of_word r) (octets_of_word s) refl refl refl
    ∙ add_three (octets_of_word p) (octets_of_word q) (octets_of_word r) (octets_of_word s)

pub turned_sum_is : (p q r s : ℕ) → p < 2 ^ 32 → q < 2 ^ 32 → r < 2 ^ 32 → s < 2 ^ 32
    → octets_of_word (bit_xor (bit_xor (bit_xor p (rotate_right w32 q 8)) (rotate_right w32 r 16)) (rotate_right w32 s 24)) ≡ turned_sum (octets_of_word p) (octets_of_word q) (octets_of_word r) (octets_of_word s)
turned_sum_is p q r s in_p in_q in_r in_s =
    sum_of_words p (rotate_right w32 q 8) (rotate_right w32 r 16) (rotate_right w32 s 24) (turned (octets_of_word q) 3) (turned (octets_of_word r) 2) (turned (octets_of_word s) 1) (turned_8 q in_q) (turned_16 r in_r) (turned_24 s in_s)
    ∙ add_three (octets_of_word p) (turned (octets_of_word q) 3) (turned (octets_of_word r) 2) (turned (octets_of_word s) 1)

-- ---- states

pub added : (s k : State) → octets_of (record { a = bit_xor s.a k.a; b = bit_xor s.b k.b; c = bit_xor s.c k.c; d = bit_xor s.d k.d }) ≡ add_round_key (octets_of s) (octets_of k)
unfolding octets_of octets_of_words octets_of_word add_round_key
added s k = same_words _ _ _ _ _ _ _ _ (word_xor s.a k.a) (word_xor s.b k.b) (word_xor s.c k.c) (word_xor s.d k.d)

-- ---- the columns of a state after a round, and after the inverse of one

pub mixed_columns : (s t : State) → octets_of_word t.a ≡ times_column mix_matrix (map sub_octet (diagonal s.a s.b s.c s.d))
    → octets_of_word t.b ≡ times_column mix_matrix (map sub_octet (diagonal s.b s.c s.d s.a))
    → octets_of_word t.c ≡ times_column mix_matrix (map sub_octet (diagonal s.c s.d s.a s.b))
    → octets_of_word t.d ≡ times_column mix_matrix (map sub_octet (diagonal s.d s.a s.b s.c))
    → octets_of t ≡ mix_columns (shift_rows (sub_bytes (octets_of s)))
unfolding octets_of octets_of_words octets_of_word mix_columns shift_rows sub_bytes
mixed_columns s t a b c d = same_words _ _ _ _ _ _ _ _ a b c d

pub shifted_columns : (s t : State) → octets_of_word t.a ≡ map sub_octet (diagonal s.a s.b s.c s.d)
    → octets_of_word t.b ≡ map sub_octet (diagonal s.b s.c s.d s.a) → octets_of_word t.c ≡ map sub_octet (diagonal s.c s.d s.a s.b)
    → octets_of_word t.d ≡ map sub_octet (diagonal s.d s.a s.b s.c) → octets_of t ≡ shift_rows (sub_bytes (octets_of s))
unfolding octets_of octets_of_words octets_of_word shift_rows sub_bytes
shifted_columns s t a b c d = same_words _ _ _ _ _ _ _ _ a b c d

pub unmixed_columns : (s t : State) → octets_of_word t.a ≡ times_column unmix_matrix (map inverse_sub_octet (diagonal s.a s.d s.c s.b))
    → octets_of_word t.b ≡ times_column unmix_matrix (map inverse_sub_octet (diagonal s.b s.a s.d s.c))
    → octets_of_word t.c ≡ times_column unmix_matrix (map inverse_sub_octet (diagonal s.c s.b s.a s.d))
    → octets_of_word t.d ≡ times_column unmix_matrix (map inverse_sub_octet (diagonal s.d s.c s.b s.a))
    → octets_of t ≡ inverse_mix_columns (inverse_sub_bytes (inverse_shift_rows (octets_of s)))
unfolding octets_of octets_of_words octets_of_word inverse_mix_columns inverse_shift_rows inverse_sub_bytes
unmixed_columns s t a b c d = same_words _ _ _ _ _ _ _ _ a b c d

pub unshifted_columns : (s t : State) → octets_of_word t.a ≡ map inverse_sub_octet (diagonal s.a s.d s.c s.b)
    → octets_of_word t.b ≡ map inverse_sub_octet (diagonal s.b s.a s.d s.c)
    → octets_of_word t.c ≡ map inverse_sub_octet (diagonal s.c s.b s.a s.d)
    → octets_of_word t.d ≡ map inverse_sub_octet (diagonal s.d s.c s.b s.a)
    → octets_of t ≡ inverse_sub_bytes (inverse_shift_rows (octets_of s))
unfolding octets_of octets_of_words octets_of_word inverse_shift_rows inverse_sub_bytes
unshifted_columns s t a b c d = same_words _ _ _ _ _ _ _ _ a b c d

pub unmixed_words : (s t : State) → octets_of_word t.a ≡ times_column unmix_matrix (octets_of_word s.a)
    → octets_of_word t.b ≡ times_column unmix_matrix (octets_of_word s.b)
    → octets_of_word t.c ≡ times_column unmix_matrix (octets_of_word s.c)
    → octets_of_word t.d ≡ times_column unmix_matrix (octets_of_word s.d) → octets_of t ≡ inverse_mix_columns (octets_of s)
unfolding octets_of octets_of_words octets_of_word inverse_mix_columns
unmixed_words s t a b c d = same_words _ _ _ _ _ _ _ _ a b c d

-- ---- one column

-- a word of the images of a diagonal
pub word_of_images : (f : ℕ → ℕ) (a b c d w x y z n : ℕ) → w < 256 → x < 256 → y < 256 → z < 256 → w ≡ f (slice_index (octets_of_word a) 0)
    → x ≡ f (slice_index (octets_of_word b) 1) → y ≡ f (slice_index (octets_of_word c) 2) → z ≡ f (slice_index (octets_of_word d) 3)
    → n ≡ from_be_bytes w32 (w ∷ x ∷ y ∷ z ∷ []) → octets_of_word n ≡ map f (diagonal a b c d)
word_of_images f a b c d w x y z n in_w in_x in_y in_z w_is x_is y_is z_is n_is =
    word_of_four w x y z n in_w in_x in_y in_z n_is ∙ same_four _ _ _ _ _ _ _ _ w_is x_is y_is z_is

-- The octets of a word are octets.
pub AreOctets-word : (n k : ℕ) → slice_index (octets_of_word n) k < 256
unfolding octets_of_word
AreOctets-word n zero = omega arith
AreOctets-word n (suc zero) = omega arith
AreOctets-word n (suc (suc zero)) = omega arith
AreOctets-word n (suc (suc (suc zero))) = omega arith
AreOctets-word n (suc (suc (suc (suc k)))) = omega arith
