-- Sums and products of octets, and the two matrices, of which each undoes the other.
use Rattle.std.proofs.Common.{Bool, true, false, ◌≡◌, ℕ, zero, suc, ◌+◌, ◌*◌, ◌/◌, ◌%◌, ◌^◌, ◌<◌, if◌then◌else◌, nat_eq, List, [], ◌∷◌, map, slice_index, slice_index_or, bit_xor, refl, sym, ◌∙◌, ap, arith}
use Rattle.std.specs.Int.Bits.{xor_self, xor_zero_l, xor_zero_r}
use Rattle.std.specs.List.{range_with_len}
use Rattle.std.proofs.lemmas.Nat.{xor_lt, xor_shr, xor_mod}
use Rattle.perc_aes.specs.Field.{add, total, times_x, product, product_below}
use Rattle.perc_aes.specs.Cipher.{mix_matrix}
use Rattle.perc_aes.specs.Inverse.{unmix_matrix}
use Rattle.perc_aes.proofs.Linear.{add_add, agree}
use Rattle.perc_aes.proofs.Octets.{same_along, below_256}

-- ---- sums

total_zero : (ks : List ℕ) → total (map (λ k. 0) ks) ≡ 0
total_zero [] = refl
total_zero (k ∷ ks) = total_zero ks

pub total_add : (f g : ℕ → ℕ) (ks : List ℕ) → total (map (λ k. add (f k) (g k)) ks) ≡ add (total (map f ks)) (total (map g ks))
total_add f g [] = refl
total_add f g (k ∷ ks) =
    ap (λ (x : ℕ). add (add (f k) (g k)) x) (total_add f g ks)
    ∙ add_add (f k) (g k) (total (map f ks)) (total (map g ks))

-- a sum over rows and columns, taken the other way round
total_swap : (f : ℕ → ℕ → ℕ) (js ks : List ℕ) → total (map (λ j. total (map (λ k. f j k) ks)) js) ≡ total (map (λ k. total (map (λ j. f j k) js)) ks)
total_swap f [] ks = sym (total_zero ks)
total_swap f (j ∷ js) ks =
    ap (λ (x : ℕ). add (total (map (λ k. f j k) ks)) x) (total_swap f js ks)
    ∙ sym (total_add (λ k. f j k) (λ k. total (map (λ j. f j k) js)) ks)

-- four terms, each by an equation
pub total_same : (f g : ℕ → ℕ) → ((k : ℕ) → k < 4 → f k ≡ g k) → total (map f (range_with_len 0 4)) ≡ total (map g (range_with_len 0 4))
total_same f g same =
    rw (same 0 (omega arith), same 1 (omega arith), same 2 (omega arith), same 3 (omega arith)) refl

-- ---- products

product_by_bit : (a u v : ℕ) → u < 2 → v < 2 → (if nat_eq (bit_xor u v) 1 then a else 0) ≡ add (if nat_eq u 1 then a else 0) (if nat_eq v 1 then a else 0)
product_by_bit a zero zero _ _ = refl
product_by_bit a zero (suc zero) _ _ = sym (xor_zero_l a)
product_by_bit a (suc zero) zero _ _ = sym (xor_zero_r a)
product_by_bit a (suc zero) (suc zero) _ _ = sym (xor_self a)
product_by_bit a (suc (suc u)) v p q = absurd (omega arith)
product_by_bit a zero (suc (suc v)) p q = absurd (omega arith)
product_by_bit a (suc zero) (suc (suc v)) p q = absurd (omega arith)

product_below_add : (n a b c : ℕ) → product_below n a (add b c) ≡ add (product_below n a b) (product_below n a c)
unfolding product_below
product_below_add zero a b c = refl
product_below_add (suc n) a b c =
    rw (xor_mod b c 1, xor_shr b c 1, product_below_add n (times_x a) (b / 2) (c / 2), product_by_bit a (b % 2) (c % 2) (omega arith) (omega arith))
    (add_add (if nat_eq (b % 2) 1 then a else 0) (if nat_eq (c % 2) 1 then a else 0) (product_below n (times_x a) (b / 2)) (product_below n (times_x a) (c / 2)))

-- a product is linear in its second factor
pub product_add : (a b c : ℕ) → product a (add b c) ≡ add (product a b) (product a c)
unfolding product
product_add a b c = product_below_add 8 a b c

product_zero : (a : ℕ) → product a 0 ≡ 0
unfolding product product_below
product_zero a = refl

product_total : (a : ℕ) (f : ℕ → ℕ) (ks : List ℕ) → product a (total (map f ks)) ≡ total (map (λ k. product a (f k)) ks)
product_total a f [] = product_zero a
product_total a f (k ∷ ks) =
    product_add a (f k) (total (map f ks)) ∙ ap (λ (x : ℕ). add (product a (f k)) x) (product_total a f ks)

times_x_in_range : (a : ℕ) → a < 256 → times_x a < 256
times_x_in_range a in_range = below_256 times_x refl a in_range

chosen_in_range : (set : Bool) (a : ℕ) → a < 256 → (if set then a else 0) < 256
chosen_in_range true a in_range = in_range
chosen_in_range false a in_range = omega arith

product_below_in_range : (n a b : ℕ) → a < 256 → product_below n a b < 256
unfolding product_below
product_below_in_range zero a b in_range = omega arith
product_below_in_range (suc n) a b in_range =
    xor_lt 8 (if nat_eq (b % 2) 1 then a else 0) (product_below n (times_x a) (b / 2)) (chosen_in_range (nat_eq (b % 2) 1) a in_range)
    (product_below_in_range n (times_x a) (b / 2) (times_x_in_range a in_range))

pub product_in_range : (a b : ℕ) → a < 256 → product a b < 256
unfolding product
product_in_range a b in_range = product_below_in_range 8 a b in_range

-- ---- matrices

abbrev pub entry : List (List ℕ) → ℕ → ℕ → ℕ
entry m r k = slice_index (slice_index_or m r []) k

-- what row r of m, of a column that n made, has of octet a in place k
abbrev twice : List (List ℕ) → List (List ℕ) → ℕ → ℕ → ℕ → ℕ
twice m n r k a = total (map (λ j. product (entry m r j) (product (entry n j k) a)) (range_with_len 0 4))

-- m undoes n: row r has the octet in place r, and nothing of the others
abbrev pub Undoes : List (List ℕ) → List (List ℕ) → Type 0
Undoes m n = (r k a : ℕ) → r < 4 → k < 4 → a < 256 → twice m n r k a ≡ (if nat_eq r k then a else 0)

-- both sides take sums to sums
twice_add : (m n : List (List ℕ)) (r k a b : ℕ) → twice m n r k (add a b) ≡ add (twice m n r k a) (twice m n r k b)
twice_add m n r k a b =
    total_same (λ j. product (entry m r j) (product (entry n j k) (add a b)))
    (λ j. add (product (entry m r j) (product (entry n j k) a)) (product (entry m r j) (product (entry n j k) b)))
    (λ j _.
    ap (λ (x : ℕ). product (entry m r j) x) (product_add (entry n j k) a b)
    ∙ product_add (entry m r j) (product (entry n j k) a) (product (entry n j k) b))
    ∙ total_add (λ j. product (entry m r j) (product (entry n j k) a)) (λ j. product (entry m r j) (product (entry n j k) b)) (range_with_len 0 4)

chosen_add : (chosen : Bool) (a b : ℕ) → (if chosen then add a b else 0) ≡ add (if chosen then a else 0) (if chosen then b else 0)
chosen_add true a b = refl
chosen_add false a b = refl

-- so that they are computed at each row, place and power of two
undoes_by_test : (m n : List (List ℕ))
    → map (λ t. twice m n (t % 4) (t / 4 % 4) (2 ^ (t / 16))) (range_with_len 0 128) ≡ map (λ t. if nat_eq (t % 4) (t / 4 % 4) then 2 ^ (t / 16) else 0) (range_with_len 0 128)
    → Undoes m n
undoes_by_test m n same r k a in_rows in_columns in_range =
    agree 8 (λ a. twice m n r k a) (λ a. if nat_eq r k then a else 0) (record { sums = twice_add m n r k }) (record { sums = chosen_add (nat_eq r k) })
    (λ i below.
    let r_is : (r + 4 * (k + 4 * i)) % 4 ≡ r = omega arith in
    let k_is : (r + 4 * (k + 4 * i)) / 4 % 4 ≡ k = omega arith in
    let i_is : (r + 4 * (k + 4 * i)) / 16 ≡ i = omega arith in
    rw (r_is, k_is, i_is) at (same_along 128 (λ t. twice m n (t % 4) (t / 4 % 4) (2 ^ (t / 16))) (λ t. if nat_eq (t % 4) (t / 4 % 4) then 2 ^ (t / 16) else 0) same (r + 4 * (k + 4 * i)) (omega arith)))
    a in_range

pub mix_undoes : Undoes mix_matrix unmix_matrix
unfolding product product_below
mix_undoes = undoes_by_test mix_matrix unmix_matrix refl

pub unmix_undoes : Undoes unmix_matrix mix_matrix
unfolding product product_below
unmix_undoes = undoes_by_test unmix_matrix mix_matrix refl

-- one place of a sum of four
picked : (f : ℕ → ℕ) (r : ℕ) → r < 4 → total (map (λ k. if nat_eq r k then f k else 0) (range_with_len 0 4)) ≡ f r
picked f zero _ = xor_zero_r (f 0)
picked f (suc zero) _ = xor_zero_r (f 1)
picked f (suc (suc zero)) _ = xor_zero_r (f 2)
picked f (suc (suc (suc zero))) _ = xor_zero_r (f 3)
picked f (suc (suc (suc (suc r)))) h = absurd (omega arith)

-- a row of m, of a column that n made of f, is an octet of f
pub undone : (m n : List (List ℕ)) (f : ℕ → ℕ) (r : ℕ) → Undoes m n → ((k : ℕ) → f k < 256) → r < 4
    → total (map (λ j. product (entry m r j) (total (map (λ k. product (entry n j k) (f k)) (range_with_len 0 4)))) (range_with_len 0 4)) ≡ f r
undone m n f r undoes in_range in_rows =
    total_same (λ j. product (entry m r j) (total (map (λ k. product (entry n j k) (f k)) (range_with_len 0 4))))
    (λ j. total (map (λ k. product (entry m r j) (product (entry n j k) (f k))) (range_with_len 0 4)))
    (λ j _. product_total (entry m r j) (λ k. product (entry n j k) (f k)) (range_with_len 0 4))
    ∙ total_swap (λ j k. product (entry m r j) (product (entry n j k) (f k))) (range_with_len 0 4) (range_with_len 0 4)
    ∙ total_same (λ k. twice m n r k (f k)) (λ k. if nat_eq r k then f k else 0) (λ k in_columns. undoes r k (f k) in_rows in_columns (in_range k))
    ∙ picked f r in_rows
