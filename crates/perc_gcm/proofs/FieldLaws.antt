-- Laws of the field. Products are linear in both factors, so that it is enough to know them at each power of x.
use Rattle.std.proofs.Common.{Bool, true, false, ◌≡◌, ℕ, zero, suc, ◌+◌, ◌-◌, ◌*◌, ◌/◌, ◌%◌, ◌^◌, ◌<◌, ◌≤◌, ◌≢◌, if◌then◌else◌, nat_eq, List, [], ◌∷◌, length, get_or, bit_xor, ⊎_elim, refl, sym, ◌∙◌, ap, arith, add-one}
use Rattle.std.specs.Int.Bits.{xor_self, xor_zero_l, xor_zero_r, xor_assoc}
use Rattle.std.proofs.Math.Nat.{pow-suc}
use Rattle.std.proofs.lemmas.Bool.{cases_eq}
use Rattle.std.proofs.lemmas.Nat.{xor_comm, xor_lt, xor_shr, xor_mod}
use Rattle.std.proofs.lemmas.Nat.Bits.{bit_at_xor, bit_at-pow_same, bit_at-pow_other, bit_at-lt}
use Rattle.perc_aes.proofs.Linear.{add_add, Linear, linear_zero, Linear-add, Linear-compose, agree}
use Rattle.perc_aes.proofs.Octets.{same_along}
use Rattle.perc_gcm.specs.Field.{add, coefficient, reduction, times_x, shifted, product_below, product, one, power, ghash}
use Rattle.perc_gcm.specs.Running.{running}

-- ---- multiplication by x

add_over : (a b c : ℕ) → add (add a b) c ≡ add (add a c) b
add_over a b c = xor_assoc a b c ∙ ap (λ (x : ℕ). add a x) (xor_comm b c) ∙ sym (xor_assoc a c b)

times_x_by_bit : (u v a b : ℕ) → u < 2 → v < 2
    → (if nat_eq (bit_xor u v) 1 then add (add a b) reduction else add a b) ≡ add (if nat_eq u 1 then add a reduction else a) (if nat_eq v 1 then add b reduction else b)
times_x_by_bit zero zero a b _ _ = refl
times_x_by_bit zero (suc zero) a b _ _ = xor_assoc a b reduction
times_x_by_bit (suc zero) zero a b _ _ = add_over a b reduction
times_x_by_bit (suc zero) (suc zero) a b _ _ =
    sym (add_add a reduction b reduction ∙ ap (λ (x : ℕ). add (add a b) x) (xor_self reduction) ∙ xor_zero_r (add a b))
times_x_by_bit (suc (suc u)) v a b p q = absurd (omega arith)
times_x_by_bit zero (suc (suc v)) a b p q = absurd (omega arith)
times_x_by_bit (suc zero) (suc (suc v)) a b p q = absurd (omega arith)

pub Linear-times_x : Linear times_x
unfolding times_x
Linear-times_x = record {
  sums = λ a b. rw (xor_mod a b 1, xor_shr a b 1) (times_x_by_bit (a % 2) (b % 2) (a / 2) (b / 2) (omega arith) (omega arith));
}

chosen_below : (set : Bool) (a b n : ℕ) → a < n → b < n → (if set then a else b) < n
chosen_below true a b n p q = p
chosen_below false a b n p q = q

pub times_x_below : (a : ℕ) → a < 2 ^ 128 → times_x a < 2 ^ 128
unfolding times_x
times_x_below a h =
    chosen_below (nat_eq (a % 2) 1) (add (a / 2) reduction) (a / 2) (2 ^ 128) (xor_lt 128 (a / 2) reduction (omega arith) (omega arith)) (omega arith)

pub Linear-shifted : (n : ℕ) → Linear (λ a. shifted a n)
unfolding shifted
Linear-shifted zero = record { sums = λ a b. refl }
Linear-shifted (suc n) = Linear-compose times_x (λ a. shifted a n) Linear-times_x (Linear-shifted n)

pub shifted_below : (n a : ℕ) → a < 2 ^ 128 → shifted a n < 2 ^ 128
unfolding shifted
shifted_below zero a h = h
shifted_below (suc n) a h = times_x_below (shifted a n) (shifted_below n a h)

pub shifted_times_x : (n a : ℕ) → shifted (times_x a) n ≡ times_x (shifted a n)
unfolding shifted
shifted_times_x zero a = refl
shifted_times_x (suc n) a = ap times_x (shifted_times_x n a)

-- what x to the power 128 is, as a multiplier
abbrev reduced : ℕ → ℕ
reduced a = add (shifted a 0) (add (shifted a 1) (add (shifted a 2) (shifted a 7)))

Linear-reduced : Linear reduced
Linear-reduced =
    Linear-add (λ a. shifted a 0) (λ a. add (shifted a 1) (add (shifted a 2) (shifted a 7))) (Linear-shifted 0)
    (Linear-add (λ a. shifted a 1) (λ a. add (shifted a 2) (shifted a 7)) (Linear-shifted 1)
    (Linear-add (λ a. shifted a 2) (λ a. shifted a 7) (Linear-shifted 2) (Linear-shifted 7)))

-- it is computed at each power of two
reduced_at : (k : ℕ) → k < 128 → shifted (2 ^ k) 128 ≡ reduced (2 ^ k)
unfolding shifted times_x
reduced_at k h = same_along 128 (λ k. shifted (2 ^ k) 128) (λ k. reduced (2 ^ k)) refl k h

pub shifted_128 : (a : ℕ) → a < 2 ^ 128 → shifted a 128 ≡ reduced a
shifted_128 a h = agree 128 (λ a. shifted a 128) reduced (Linear-shifted 128) Linear-reduced reduced_at a h

-- ---- products

-- a term of a product is linear in either factor
term_left : (set : Bool) (a c n : ℕ) → (if set then shifted (add a c) n else 0) ≡ add (if set then shifted a n else 0) (if set then shifted c n else 0)
term_left true a c n = (Linear-shifted n).sums a c
term_left false a c n = refl

Linear-term_left : (b n : ℕ) → Linear (λ a. if nat_eq (coefficient b n) 1 then shifted a n else 0)
Linear-term_left b n = record {
  sums = λ a c. term_left (nat_eq (coefficient b n) 1) a c n;
}

term_by_bit : (a u v : ℕ) → u < 2 → v < 2 → (if nat_eq ((u + v) % 2) 1 then a else 0) ≡ add (if nat_eq u 1 then a else 0) (if nat_eq v 1 then a else 0)
term_by_bit a zero zero _ _ = refl
term_by_bit a zero (suc zero) _ _ = sym (xor_zero_l a)
term_by_bit a (suc zero) zero _ _ = sym (xor_zero_r a)
term_by_bit a (suc zero) (suc zero) _ _ = sym (xor_self a)
term_by_bit a (suc (suc u)) v p q = absurd (omega arith)
term_by_bit a zero (suc (suc v)) p q = absurd (omega arith)
term_by_bit a (suc zero) (suc (suc v)) p q = absurd (omega arith)

Linear-term_right : (a n : ℕ) → Linear (λ b. if nat_eq (coefficient b n) 1 then shifted a n else 0)
Linear-term_right a n = record {
  sums = λ b c. rw (bit_at_xor b c (127 - n)) (term_by_bit (shifted a n) (coefficient b n) (coefficient c n) (bit_at-lt b (127 - n)) (bit_at-lt c (127 - n)));
}

Linear-below_left : (n b : ℕ) → Linear (λ a. product_below n a b)
unfolding product_below
Linear-below_left zero b = record { sums = λ a c. refl }
Linear-below_left (suc n) b =
    Linear-add (λ a. product_below n a b) (λ a. if nat_eq (coefficient b n) 1 then shifted a n else 0) (Linear-below_left n b) (Linear-term_left b n)

Linear-below_right : (n a : ℕ) → Linear (λ b. product_below n a b)
unfolding product_below
Linear-below_right zero a = record { sums = λ b c. refl }
Linear-below_right (suc n) a =
    Linear-add (λ b. product_below n a b) (λ b. if nat_eq (coefficient b n) 1 then shifted a n else 0) (Linear-below_right n a) (Linear-term_right a n)

-- A product is linear in its first factor,
pub Linear-left : (b : ℕ) → Linear (λ a. product a b)
unfolding product
Linear-left b = Linear-below_left 128 b

-- and in its second.
pub Linear-right : (a : ℕ) → Linear (λ b. product a b)
unfolding product
Linear-right a = Linear-below_right 128 a

product_below_below : (n a b : ℕ) → a < 2 ^ 128 → product_below n a b < 2 ^ 128
unfolding product_below
product_below_below zero a b h = omega arith
product_below_below (suc n) a b h =
    xor_lt 128 (product_below n a b) (if nat_eq (coefficient b n) 1 then shifted a n else 0) (product_below_below n a b h)
    (chosen_below (nat_eq (coefficient b n) 1) (shifted a n) 0 (2 ^ 128) (shifted_below n a h) (omega arith))

-- A product is an element.
pub product_is_element : (a b : ℕ) → a < 2 ^ 128 → product a b < 2 ^ 128
unfolding product
product_is_element a b h = product_below_below 128 a b h

-- the terms of a product by a power of two are 0 but for one
below_before : (n a k : ℕ) → k + n ≤ 127 → product_below n a (2 ^ k) ≡ 0
unfolding product_below
below_before zero a k h = refl
below_before (suc n) a k h =
    rw (below_before n a k (omega arith), bit_at-pow_other k (127 - n) (omega arith)) refl

below_after : (n a k : ℕ) → k < 128 → n ≤ 128 → 127 < k + n → product_below n a (2 ^ k) ≡ shifted a (127 - k)
unfolding product_below
below_after zero a k h i j = absurd (omega arith)
below_after (suc n) a k h i j =
    ⊎_elim (λ (e : n ≡ 127 - k).
    let back : 127 - n ≡ k = omega arith in
    rw (below_before n a k (omega arith), back, bit_at-pow_same k, e) (xor_zero_l (shifted a (127 - k))))
    (λ (e : n ≢ 127 - k).
    rw (below_after n a k h (omega arith) (omega arith), bit_at-pow_other k (127 - n) (omega arith)) (xor_zero_r (shifted a (127 - k))))
    (cases_eq n (127 - k))

-- 2^k stands for x to the power 127 - k
pub product_pow : (a k : ℕ) → k < 128 → product a (2 ^ k) ≡ shifted a (127 - k)
unfolding product
product_pow a k h = below_after 128 a k h (omega arith) (omega arith)

-- 1 is neutral.
pub product_one : (a : ℕ) → product a one ≡ a
unfolding shifted
product_one a = product_pow a 127 (omega arith)

times_x_pow : (k : ℕ) → times_x (2 ^ suc k) ≡ 2 ^ k
unfolding times_x
times_x_pow k =
    let twice : 2 ^ suc k ≡ 2 ^ k * 2 = pow-suc 2 k in
    let even : (2 ^ k * 2) % 2 ≡ 0 = omega arith in
    let half : (2 ^ k * 2) / 2 ≡ 2 ^ k = omega arith in
    rw (twice, even, half) refl

-- the coefficients of x to the power 128
product_reduction : (a : ℕ) → product a reduction ≡ reduced a
product_reduction a =
    (Linear-right a).sums (2 ^ 127) (add (2 ^ 126) (add (2 ^ 125) (2 ^ 120)))
    ∙ ap (λ (x : ℕ). add (product a (2 ^ 127)) x) ((Linear-right a).sums (2 ^ 126) (add (2 ^ 125) (2 ^ 120)))
    ∙ ap (λ (x : ℕ). add (product a (2 ^ 127)) (add (product a (2 ^ 126)) x)) ((Linear-right a).sums (2 ^ 125) (2 ^ 120))
    ∙ ap (λ (x : ℕ). add x (add (product a (2 ^ 126)) (add (product a (2 ^ 125)) (product a (2 ^ 120))))) (product_pow a 127 (omega arith))
    ∙ ap (λ (x : ℕ). add (shifted a 0) (add x (add (product a (2 ^ 125)) (product a (2 ^ 120))))) (product_pow a 126 (omega arith))
    ∙ ap (λ (x : ℕ). add (shifted a 0) (add (shifted a 1) (add x (product a (2 ^ 120))))) (product_pow a 125 (omega arith))
    ∙ ap (λ (x : ℕ). add (shifted a 0) (add (shifted a 1) (add (shifted a 2) x))) (product_pow a 120 (omega arith))

shifted_suc : (a n m : ℕ) → m ≡ suc n → shifted a m ≡ times_x (shifted a n)
unfolding shifted
shifted_suc a n m e = ap (λ (x : ℕ). shifted a x) e

times_x_one : times_x (2 ^ 0) ≡ reduction
unfolding times_x
times_x_one = refl

times_x_at : (a k : ℕ) → a < 2 ^ 128 → k < 128 → product a (times_x (2 ^ k)) ≡ times_x (product a (2 ^ k))
times_x_at a zero h i =
    ap (λ (x : ℕ). product a x) times_x_one ∙ product_reduction a ∙ sym (shifted_128 a h)
    ∙ shifted_suc a 127 128 refl ∙ sym (ap times_x (product_pow a 0 (omega arith)))
times_x_at a (suc k) h i =
    ap (λ (x : ℕ). product a x) (times_x_pow k) ∙ product_pow a k (omega arith)
    ∙ shifted_suc a (127 - suc k) (127 - k) (omega arith)
    ∙ sym (ap times_x (product_pow a (suc k) i))

-- A factor x goes out of a product.
pub product_times_x : (a b : ℕ) → a < 2 ^ 128 → b < 2 ^ 128 → product a (times_x b) ≡ times_x (product a b)
product_times_x a b p q =
    agree 128 (λ b. product a (times_x b)) (λ b. times_x (product a b))
    (Linear-compose (λ b. product a b) times_x (Linear-right a) Linear-times_x)
    (Linear-compose times_x (λ b. product a b) Linear-times_x (Linear-right a))
    (λ k i. times_x_at a k p i) b q

pub product_shifted : (n a b : ℕ) → a < 2 ^ 128 → b < 2 ^ 128 → product a (shifted b n) ≡ shifted (product a b) n
unfolding shifted
product_shifted zero a b p q = refl
product_shifted (suc n) a b p q =
    product_times_x a (shifted b n) p (shifted_below n b q) ∙ ap times_x (product_shifted n a b p q)

-- Products are associative.
pub product_assoc : (a b c : ℕ) → a < 2 ^ 128 → b < 2 ^ 128 → c < 2 ^ 128 → product (product a b) c ≡ product a (product b c)
product_assoc a b c p q r =
    agree 128 (λ c. product (product a b) c) (λ c. product a (product b c))
    (Linear-right (product a b))
    (Linear-compose (λ v. product a v) (λ c. product b c) (Linear-right a) (Linear-right b))
    (λ k i. product_pow (product a b) k i ∙ sym (product_shifted (127 - k) a b p q) ∙ sym (ap (λ (x : ℕ). product a x) (product_pow b k i)))
    c r

-- ---- the hash, block by block

pub power_is_element : (h k : ℕ) → h < 2 ^ 128 → power h k < 2 ^ 128
unfolding power
power_is_element h zero p = omega arith
power_is_element h (suc k) p = product_is_element h (power h k) p

power_more : (h a k : ℕ) → h < 2 ^ 128 → a < 2 ^ 128 → product (product a h) (power h k) ≡ product a (power h (suc k))
unfolding power
power_more h a k p q = product_assoc a h (power h k) q p (power_is_element h k p)

running_from : (h y : ℕ) (xs : List ℕ) → h < 2 ^ 128 → y < 2 ^ 128 → ((k : ℕ) → get_or xs k 0 < 2 ^ 128) → running h y xs ≡ add (product y (power h (length xs))) (ghash h xs)
unfolding running ghash power
running_from h y [] p q r = sym (xor_zero_r (product y one) ∙ product_one y)
running_from h y (x ∷ xs) p q r =
    let x_in : x < 2 ^ 128 = r 0 in
    let sum_in : add y x < 2 ^ 128 = xor_lt 128 y x q x_in in
    running_from h (product (add y x) h) xs p (product_is_element (add y x) h sum_in) (λ k. r (suc k))
    ∙ ap (λ (v : ℕ). add v (ghash h xs))
    (power_more h (add y x) (length xs) p sum_in
    ∙ (Linear-left (power h (suc (length xs)))).sums y x)
    ∙ xor_assoc (product y (power h (suc (length xs)))) (product x (power h (suc (length xs)))) (ghash h xs)
    ∙ ap (λ (n : ℕ). add (product y (power h (suc (length xs)))) (add (product x (power h n)) (ghash h xs))) (sym (add-one (length xs)))

-- From 0, the running hash is the hash.
pub running_hash : (h : ℕ) (xs : List ℕ) → h < 2 ^ 128 → ((k : ℕ) → get_or xs k 0 < 2 ^ 128) → running h 0 xs ≡ ghash h xs
running_hash h xs p r =
    running_from h 0 xs p (omega arith) r
    ∙ ap (λ (x : ℕ). add x (ghash h xs)) (linear_zero (λ a. product a (power h (length xs))) (Linear-left (power h (length xs))))
    ∙ xor_zero_l (ghash h xs)

-- ---- products commute

one_at : (k : ℕ) → k < 128 → shifted one (127 - k) ≡ 2 ^ k
unfolding shifted times_x
one_at k h = same_along 128 (λ k. shifted one (127 - k)) (λ k. 2 ^ k) refl k h

product_one_left : (a : ℕ) → a < 2 ^ 128 → product one a ≡ a
product_one_left a h =
    agree 128 (λ a. product one a) (λ a. a) (Linear-right one) (record { sums = λ a b. refl })
    (λ k i. product_pow one k i ∙ one_at k i) a h

term_times_x : (set : Bool) (n a : ℕ) → (if set then shifted (times_x a) n else 0) ≡ times_x (if set then shifted a n else 0)
term_times_x true n a = shifted_times_x n a
term_times_x false n a = sym (linear_zero times_x Linear-times_x)

times_x_left : (n a b : ℕ) → product_below n (times_x a) b ≡ times_x (product_below n a b)
unfolding product_below
times_x_left zero a b = sym (linear_zero times_x Linear-times_x)
times_x_left (suc n) a b =
    ap (λ (x : ℕ). add x (if nat_eq (coefficient b n) 1 then shifted (times_x a) n else 0)) (times_x_left n a b)
    ∙ ap (λ (x : ℕ). add (times_x (product_below n a b)) x) (term_times_x (nat_eq (coefficient b n) 1) n a)
    ∙ sym (Linear-times_x.sums (product_below n a b) (if nat_eq (coefficient b n) 1 then shifted a n else 0))

pub shifted_left : (n a b : ℕ) → product (shifted a n) b ≡ shifted (product a b) n
unfolding shifted product
shifted_left zero a b = refl
shifted_left (suc n) a b = times_x_left 128 (shifted a n) b ∙ ap times_x (shifted_left n a b)

-- Products commute.
pub product_comm : (a b : ℕ) → a < 2 ^ 128 → b < 2 ^ 128 → product a b ≡ product b a
product_comm a b p q =
    agree 128 (λ a. product a b) (λ a. product b a) (Linear-left b) (Linear-right b)
    (λ k i.
    ap (λ (x : ℕ). product x b) (sym (one_at k i)) ∙ shifted_left (127 - k) one b
    ∙ ap (λ (x : ℕ). shifted x (127 - k)) (product_one_left b q)
    ∙ sym (product_pow b k i))
    a p
