-- A block as a number, and a number as a block.
use Rattle.std.proofs.Common.{◌≡◌, ℕ, zero, suc, ◌+◌, ◌*◌, ◌/◌, ◌%◌, ◌^◌, ◌<◌, ◌≤◌, List, ◌++◌, length, take, drop, get_or, bit_xor, ⊎_elim, refl, sym, ◌∙◌, ap, arith}
use Rattle.std.specs.Int.{w64, w128, byte_at, bytes_high_first, from_be_bytes, to_be_bytes}
use Rattle.std.proofs.Math.Arith.{mod-mul}
use Rattle.std.proofs.Math.Nat.{mul_comm, pow-suc}
use Rattle.std.proofs.lemmas.Bool.{cases_lt}
use Rattle.std.proofs.lemmas.List.{get_or-take, get_or-drop, get_or_past, length-take, length-drop, take-append-drop}
use Rattle.std.proofs.lemmas.Nat.{be_bytes_8, from_be_bytes-to_be_bytes_8, pow-add, same_from_place, xor_mod, xor_shr}
use Rattle.perc_aes.specs.Cipher.{IsBlock}
use Rattle.perc_gcm.specs.Gcm.{element}
use Rattle.perc_gcm.proofs.Blocks.{below_append}

-- ---- octets

byte_below : (k n : ℕ) → byte_at k n < 256
byte_below zero n = omega arith
byte_below (suc k) n = omega arith

pub bytes_below : (k n j : ℕ) → get_or (bytes_high_first k n) j 0 < 256
bytes_below zero n j = omega arith
bytes_below (suc k) n zero = byte_below k n
bytes_below (suc k) n (suc j) = bytes_below k n j

pub take_below : (n : ℕ) (xs : List ℕ) → ((k : ℕ) → get_or xs k 0 < 256) → (k : ℕ) → get_or (take n xs) k 0 < 256
take_below n xs all k =
    ⊎_elim (λ (inside : k < n). omega (arith, get_or-take n xs k 0 inside, all k))
    (λ (past : n ≤ k).
    let short : length (take n xs) ≤ k = omega (arith, length-take n xs) in
    omega (arith, get_or_past (take n xs) k 0 short))
    (cases_lt k n)

-- ---- the octets of a number

byte_is : (k n : ℕ) → byte_at k n ≡ n / 256 ^ k % 256
byte_is zero n = omega arith
byte_is (suc k) n = refl

pow_positive : (k : ℕ) → 0 < 256 ^ k
pow_positive zero = omega arith
pow_positive (suc k) = omega (arith, pow-suc 256 k, pow_positive k)

one_octet_more : (k n : ℕ) → n % 256 ^ suc k ≡ byte_at k n * 256 ^ k + n % 256 ^ k
one_octet_more k n =
    let power : 256 ^ suc k ≡ 256 * 256 ^ k = pow-suc 256 k ∙ mul_comm (256 ^ k) 256 in
    ap (λ (m : ℕ). n % m) power ∙ mod-mul n {m = 256} {c = 256 ^ k} (omega arith) (pow_positive k)
    ∙ ap (λ (b : ℕ). b * 256 ^ k + n % 256 ^ k) (sym (byte_is k n))

-- the lowest k octets of a number are the number modulo 256^k
pub number_of_octets : (k m n : ℕ) → bytes_high_first k m ≡ bytes_high_first k n → m % 256 ^ k ≡ n % 256 ^ k
number_of_octets zero m n same = omega arith
number_of_octets (suc k) m n same =
    let first : byte_at k m ≡ byte_at k n = ap (λ (xs : List ℕ). get_or xs 0 0) same in
    let rest = number_of_octets k m n (ap (λ (xs : List ℕ). drop 1 xs) same) in
    one_octet_more k m ∙ ap (λ (b : ℕ). b * 256 ^ k + m % 256 ^ k) first ∙ ap (λ (x : ℕ). byte_at k n * 256 ^ k + x) rest
    ∙ sym (one_octet_more k n)

-- ---- blocks

halves : (a : List ℕ) → element a ≡ from_be_bytes w64 (take 8 a) * 2 ^ 64 + from_be_bytes w64 (drop 8 a)
unfolding element
halves a =
    omega (
      arith,
      get_or-take 8 a 0 0 (omega arith),
      get_or-take 8 a 1 0 (omega arith),
      get_or-take 8 a 2 0 (omega arith),
      get_or-take 8 a 3 0 (omega arith),
      get_or-take 8 a 4 0 (omega arith),
      get_or-take 8 a 5 0 (omega arith),
      get_or-take 8 a 6 0 (omega arith),
      get_or-take 8 a 7 0 (omega arith),
      get_or-drop 8 a 0 0,
      get_or-drop 8 a 1 0,
      get_or-drop 8 a 2 0,
      get_or-drop 8 a 3 0,
      get_or-drop 8 a 4 0,
      get_or-drop 8 a 5 0,
      get_or-drop 8 a 6 0,
      get_or-drop 8 a 7 0,
    )

word_fits : (a : List ℕ) → ((k : ℕ) → get_or a k 0 < 256) → from_be_bytes w64 a < 2 ^ 64
word_fits a octets =
    let h0 = octets 0 in
    let h1 = octets 1 in
    let h2 = octets 2 in
    let h3 = octets 3 in
    let h4 = octets 4 in
    let h5 = octets 5 in
    let h6 = octets 6 in
    let h7 = octets 7 in
    omega arith

drop_below : (n : ℕ) (xs : List ℕ) → ((k : ℕ) → get_or xs k 0 < 256) → (k : ℕ) → get_or (drop n xs) k 0 < 256
drop_below n xs all k = omega (arith, get_or-drop n xs k 0, all (n + k))

word_injective : (a b : List ℕ) → length a ≡ 8 → length b ≡ 8 → ((k : ℕ) → get_or a k 0 < 256) → ((k : ℕ) → get_or b k 0 < 256) → from_be_bytes w64 a ≡ from_be_bytes w64 b → a ≡ b
word_injective a b size_a size_b octets_a octets_b same =
    sym (be_bytes_8 a (from_be_bytes w64 a) size_a octets_a refl) ∙ be_bytes_8 b (from_be_bytes w64 a) size_b octets_b same

-- Blocks with one element are one block.
pub element_injective : (a b : List ℕ) → IsBlock a → IsBlock b → element a ≡ element b → a ≡ b
element_injective a b block_a block_b same =
    let size_a = block_a.size in
    let size_b = block_b.size in
    let first_a = take_below 8 a block_a.octets in
    let first_b = take_below 8 b block_b.octets in
    let last_a = drop_below 8 a block_a.octets in
    let last_b = drop_below 8 b block_b.octets in
    let numbers = same_from_place (from_be_bytes w64 (take 8 a)) (from_be_bytes w64 (drop 8 a)) (from_be_bytes w64 (take 8 b)) (from_be_bytes w64 (drop 8 b)) (2 ^ 64)
    (word_fits (drop 8 a) last_a) (word_fits (drop 8 b) last_b) (sym (halves a) ∙ same ∙ halves b) in
    let first : take 8 a ≡ take 8 b = word_injective (take 8 a) (take 8 b) (omega (arith, length-take 8 a)) (omega (arith, length-take 8 b)) first_a first_b numbers.0 in
    let last : drop 8 a ≡ drop 8 b = word_injective (drop 8 a) (drop 8 b) (omega (arith, length-drop 8 a)) (omega (arith, length-drop 8 b)) last_a last_b numbers.1 in
    sym (take-append-drop 8 a) ∙ ap (λ (x : List ℕ). x ++ drop 8 a) first ∙ ap (λ (x : List ℕ). take 8 b ++ x) last ∙ take-append-drop 8 b

-- The block that spells a number spells it.
pub element_of_bytes : (n : ℕ) → n < 2 ^ 128 → element (to_be_bytes w128 n) ≡ n
unfolding element
element_of_bytes n fits =
    omega (
      arith,
      one_octet_more 0 n,
      one_octet_more 1 n,
      one_octet_more 2 n,
      one_octet_more 3 n,
      one_octet_more 4 n,
      one_octet_more 5 n,
      one_octet_more 6 n,
      one_octet_more 7 n,
      one_octet_more 8 n,
      one_octet_more 9 n,
      one_octet_more 10 n,
      one_octet_more 11 n,
      one_octet_more 12 n,
      one_octet_more 13 n,
      one_octet_more 14 n,
      one_octet_more 15 n,
    )

pub element_fits : (a : List ℕ) → IsBlock a → element a < 2 ^ 128
element_fits a block =
    let first = word_fits (take 8 a) (take_below 8 a block.octets) in
    let last = word_fits (drop 8 a) (drop_below 8 a block.octets) in
    omega (arith, halves a)

pub IsBlock-bytes : (n : ℕ) → IsBlock (to_be_bytes w128 n)
IsBlock-bytes n = record { size = refl; octets = bytes_below 16 n }

-- The number that a block spells spells it.
pub bytes_of_element : (a : List ℕ) → IsBlock a → to_be_bytes w128 (element a) ≡ a
bytes_of_element a block =
    element_injective (to_be_bytes w128 (element a)) a (IsBlock-bytes (element a)) block
    (element_of_bytes (element a) (element_fits a block))

-- A block is two words of 64 bits.
pub block_by_words : (n high low : ℕ) → n < 2 ^ 128 → high ≡ n / 2 ^ 64 → low ≡ n % 2 ^ 64 → to_be_bytes w64 high ++ to_be_bytes w64 low ≡ to_be_bytes w128 n
block_by_words n high low fits high_is low_is =
    let first = from_be_bytes-to_be_bytes_8 high (omega arith) in
    let last = from_be_bytes-to_be_bytes_8 low (omega arith) in
    let value : element (to_be_bytes w64 high ++ to_be_bytes w64 low) ≡ n =
    halves (to_be_bytes w64 high ++ to_be_bytes w64 low)
    ∙ ap (λ (x : ℕ). x * 2 ^ 64 + from_be_bytes w64 (to_be_bytes w64 low)) first
    ∙ ap (λ (x : ℕ). high * 2 ^ 64 + x) last ∙ omega arith in
    element_injective (to_be_bytes w64 high ++ to_be_bytes w64 low) (to_be_bytes w128 n)
    (record { size = refl; octets = below_append 256 (to_be_bytes w64 high) (to_be_bytes w64 low) (bytes_below 8 high) (bytes_below 8 low) })
    (IsBlock-bytes n) (value ∙ sym (element_of_bytes n fits))

-- ---- sums

power_of_256 : (k : ℕ) → 256 ^ k ≡ 2 ^ (8 * k)
power_of_256 zero = refl
power_of_256 (suc k) =
    let more : 8 * k + 8 ≡ 8 * suc k = omega arith in
    pow-suc 256 k ∙ ap (λ (x : ℕ). x * 256) (power_of_256 k) ∙ sym (pow-add 2 (8 * k) 8) ∙ ap (λ (n : ℕ). 2 ^ n) more

byte_of_sum : (k x y : ℕ) → byte_at k (bit_xor x y) ≡ bit_xor (byte_at k x) (byte_at k y)
byte_of_sum k x y =
    let at_x : x / 2 ^ (8 * k) % 256 ≡ byte_at k x = ap (λ (p : ℕ). x / p % 256) (sym (power_of_256 k)) ∙ sym (byte_is k x) in
    let at_y : y / 2 ^ (8 * k) % 256 ≡ byte_at k y = ap (λ (p : ℕ). y / p % 256) (sym (power_of_256 k)) ∙ sym (byte_is k y) in
    byte_is k (bit_xor x y) ∙ ap (λ (p : ℕ). bit_xor x y / p % 256) (power_of_256 k)
    ∙ ap (λ (v : ℕ). v % 256) (xor_shr x y (8 * k)) ∙ xor_mod (x / 2 ^ (8 * k)) (y / 2 ^ (8 * k)) 8
    ∙ ap (λ (v : ℕ). bit_xor v (y / 2 ^ (8 * k) % 256)) at_x ∙ ap (λ (v : ℕ). bit_xor (byte_at k x) v) at_y

bytes_of_sum : (n x y k : ℕ) → get_or (bytes_high_first n (bit_xor x y)) k 0 ≡ bit_xor (get_or (bytes_high_first n x) k 0) (get_or (bytes_high_first n y) k 0)
bytes_of_sum zero x y k = refl
bytes_of_sum (suc n) x y zero = byte_of_sum n x y
bytes_of_sum (suc n) x y (suc k) = bytes_of_sum n x y k

-- The sum of two blocks, octet by octet.
pub octets_of_sum : (a b : List ℕ) (k : ℕ) → IsBlock a → IsBlock b → get_or (to_be_bytes w128 (bit_xor (element a) (element b))) k 0 ≡ bit_xor (get_or a k 0) (get_or b k 0)
octets_of_sum a b k block_a block_b =
    bytes_of_sum 16 (element a) (element b) k
    ∙ ap (λ (xs : List ℕ). bit_xor (get_or xs k 0) (get_or (to_be_bytes w128 (element b)) k 0)) (bytes_of_element a block_a)
    ∙ ap (λ (xs : List ℕ). bit_xor (get_or a k 0) (get_or xs k 0)) (bytes_of_element b block_b)
