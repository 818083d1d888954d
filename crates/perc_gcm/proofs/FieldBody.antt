-- The steps of a product, as the body takes them.
use Rattle.std.proofs.Common.{◌≡◌, ℕ, ◌+◌, ◌-◌, ◌/◌, ◌%◌, ◌^◌, ◌≢◌, nat_eq, false, bit_and, bit_xor, refl, sym, ◌∙◌, ap, arith, add-one}
use Rattle.std.specs.Int.Bits.{xor_zero_r}
use Rattle.std.proofs.lemmas.Bool.Decides.{nat_tests}
use Rattle.std.proofs.lemmas.Nat.{and_mask}
use Rattle.std.proofs.lemmas.Nat.Bits.{shr_and_one}
use Rattle.perc_gcm.specs.Field.{coefficient, reduction, times_x, shifted, product_below, product}

pub times_x_odd : (v : ℕ) → bit_and v 1 ≡ 1 → bit_xor (v / 2) reduction ≡ times_x v
unfolding times_x
times_x_odd v e =
    let odd : v % 2 ≡ 1 = sym (and_mask v 1) ∙ e in
    rw odd refl

pub times_x_even : (v : ℕ) → bit_and v 1 ≢ 1 → v / 2 ≡ times_x v
unfolding times_x
times_x_even v e =
    let rest : bit_and v 1 ≡ v % 2 = and_mask v 1 in
    let even : nat_eq (v % 2) 1 ≡ false = grind (arith, nat_tests) in
    rw even refl

pub product_first : (a b : ℕ) → 0 ≡ product_below 0 a b
unfolding product_below
product_first a b = refl

pub shifted_first : (a : ℕ) → a ≡ shifted a 0
unfolding shifted
shifted_first a = refl

pub shifted_more : (a i : ℕ) → times_x (shifted a i) ≡ shifted a (i + 1)
unfolding shifted
shifted_more a i = rw add-one refl

pub product_set : (a b i : ℕ) → bit_and (b / 2 ^ (127 - i)) 1 ≡ 1 → bit_xor (product_below i a b) (shifted a i) ≡ product_below (i + 1) a b
unfolding product_below
product_set a b i e =
    let set : coefficient b i ≡ 1 = sym (shr_and_one b (127 - i)) ∙ e in
    rw (add-one, set) refl

pub product_unset : (a b i : ℕ) → bit_and (b / 2 ^ (127 - i)) 1 ≢ 1 → product_below i a b ≡ product_below (i + 1) a b
unfolding product_below
product_unset a b i e =
    let same : bit_and (b / 2 ^ (127 - i)) 1 ≡ coefficient b i = shr_and_one b (127 - i) in
    let unset : nat_eq (coefficient b i) 1 ≡ false = grind (arith, nat_tests) in
    rw (add-one, unset) (sym (xor_zero_r (product_below i a b)))

pub product_last : (a b i : ℕ) → i ≡ 128 → product_below i a b ≡ product a b
unfolding product
product_last a b i e = ap (λ (n : ℕ). product_below n a b) e
