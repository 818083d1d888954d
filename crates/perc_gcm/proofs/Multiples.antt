-- A product by a table of multiples: four coefficients at a time, the last four first.
use Rattle.std.proofs.Common.{◌≡◌, ℕ, zero, suc, ◌+◌, ◌-◌, ◌*◌, ◌/◌, ◌%◌, ◌^◌, ◌<◌, ◌≤◌, List, [], ◌∷◌, length, map, get_or, bit_and, bit_xor, refl, sym, ◌∙◌, ap, arith, zero-add}
use Rattle.std.specs.List.{range_with_len}
use Rattle.std.specs.Int.Bits.{xor_assoc, xor_zero_l, xor_zero_r}
use Rattle.std.proofs.Math.Nat.{add-mul, add-zero, mul_assoc, mul_comm, mul-suc, mul-zero, mul-lt-mul_of_pos_right, pow-suc, zero-mul}
use Rattle.std.proofs.lemmas.List.FromFn.{fill_by_all, get_or-map-range_with_len}
use Rattle.std.proofs.lemmas.Nat.{and_mask, div-add-mod', mod_below, mod-pow-add, pow-add, pow_below, pow_pos, shr-shr, xor_block, xor_comm}
use Rattle.perc_gcm.specs.Field.{add, times_x, shifted, product}
use Rattle.perc_gcm.specs.Table.{multiples, polynomial}
use Rattle.perc_gcm.specs.declared.field.TheConstants.{CARRIED_NIBBLES, CARRIED_OCTETS}
use Rattle.perc_aes.proofs.Linear.{add_add, linear_zero}
use Rattle.perc_aes.proofs.Octets.{same_along}
use Rattle.perc_gcm.proofs.FieldLaws.{Linear-left, Linear-shifted, product_comm, product_pow, product_shifted, shifted_left}

-- ---- an element times x to a power

-- the whole tables, computed
nibble_carried : (n : ℕ) → n < 16 → get_or CARRIED_NIBBLES n 0 * 2 ^ 112 % 2 ^ 128 ≡ shifted n 4
unfolding shifted times_x
nibble_carried n h = same_along 16 (λ n. get_or CARRIED_NIBBLES n 0 * 2 ^ 112 % 2 ^ 128) (λ n. shifted n 4) refl n h

octet_carried : (n : ℕ) → n < 256 → get_or CARRIED_OCTETS n 0 * 2 ^ 112 % 2 ^ 128 ≡ shifted n 8
unfolding shifted times_x
octet_carried n h = same_along 256 (λ n. get_or CARRIED_OCTETS n 0 * 2 ^ 112 % 2 ^ 128) (λ n. shifted n 8) refl n h

times_x_twice : (a b : ℕ) → a ≡ b * 2 → times_x a ≡ b
unfolding times_x
times_x_twice a b twice =
    let even : a % 2 ≡ 0 = omega arith in
    let half : a / 2 ≡ b = omega arith in
    rw (even, half) refl

-- no coefficient is carried where the last w are 0
shifted_whole : (w b : ℕ) → shifted (b * 2 ^ w) w ≡ b
unfolding shifted
shifted_whole zero b = omega arith
shifted_whole (suc w) b =
    let twice : b * 2 ^ suc w ≡ b * 2 * 2 ^ w = ap (λ (p : ℕ). b * p) (pow-suc 2 w ∙ mul_comm (2 ^ w) 2) ∙ sym (mul_assoc b 2 (2 ^ w)) in
    times_x_twice (shifted (b * 2 ^ suc w) w) b (ap (λ (v : ℕ). shifted v w) twice ∙ shifted_whole w (b * 2))

-- a number by its last w bits and the others, as a sum
apart : (w high low : ℕ) → low < 2 ^ w → high * 2 ^ w + low ≡ add low (high * 2 ^ w)
apart w high low small =
    let first : 0 * 2 ^ w + low ≡ low = ap (λ (x : ℕ). x + low) (zero-mul (2 ^ w)) ∙ zero-add low in
    sym (ap (λ (x : ℕ). x * 2 ^ w + low) (xor_zero_l high)) ∙ sym (ap (λ (x : ℕ). bit_xor 0 high * 2 ^ w + x) (xor_zero_r low))
    ∙ sym (xor_block w 0 high low 0 small (pow_pos w))
    ∙ ap (λ (x : ℕ). bit_xor x (high * 2 ^ w + 0)) first ∙ ap (λ (x : ℕ). bit_xor low x) (add-zero (high * 2 ^ w))

-- an element times x to the power w, where its last w coefficients go to c
shifted_by : (w v c : ℕ) → c ≡ shifted (v % 2 ^ w) w → bit_xor (v / 2 ^ w) c ≡ shifted v w
shifted_by w v c c_is =
    let whole : v ≡ v / 2 ^ w * 2 ^ w + v % 2 ^ w = sym (div-add-mod' v (2 ^ w)) in
    xor_comm (v / 2 ^ w) c ∙ ap (λ (x : ℕ). bit_xor x (v / 2 ^ w)) c_is
    ∙ ap (λ (x : ℕ). bit_xor (shifted (v % 2 ^ w) w) x) (sym (shifted_whole w (v / 2 ^ w)))
    ∙ sym ((Linear-shifted w).sums (v % 2 ^ w) (v / 2 ^ w * 2 ^ w))
    ∙ ap (λ (x : ℕ). shifted x w) (sym (whole ∙ apart w (v / 2 ^ w) (v % 2 ^ w) (mod_below v (2 ^ w) (pow_pos w))))

-- the steps as the body takes them
pub times_x4_is : (v : ℕ) → bit_xor (v / 16) (get_or CARRIED_NIBBLES (bit_and v 15) 0 * 2 ^ 112 % 2 ^ 128) ≡ shifted v 4
times_x4_is v =
    ap (λ (n : ℕ). bit_xor (v / 16) (get_or CARRIED_NIBBLES n 0 * 2 ^ 112 % 2 ^ 128)) (and_mask v 4)
    ∙ shifted_by 4 v (get_or CARRIED_NIBBLES (v % 16) 0 * 2 ^ 112 % 2 ^ 128) (nibble_carried (v % 16) (omega arith))

pub times_x8_is : (v : ℕ) → bit_xor (v / 256) (get_or CARRIED_OCTETS (bit_and v 255) 0 * 2 ^ 112 % 2 ^ 128) ≡ shifted v 8
times_x8_is v =
    ap (λ (n : ℕ). bit_xor (v / 256) (get_or CARRIED_OCTETS n 0 * 2 ^ 112 % 2 ^ 128)) (and_mask v 8)
    ∙ shifted_by 8 v (get_or CARRIED_OCTETS (v % 256) 0 * 2 ^ 112 % 2 ^ 128) (octet_carried (v % 256) (omega arith))

-- ---- the products by the sixteen polynomials

-- x to the power n, times h
power_of_x_times : (h n : ℕ) → h < 2 ^ 128 → n < 128 → product (2 ^ (127 - n)) h ≡ shifted h n
power_of_x_times h n fits inside =
    let back : 127 - (127 - n) ≡ n = omega arith in
    let below : 2 ^ (127 - n) < 2 ^ 128 = pow_below (127 - n) 128 (omega arith) in
    product_comm (2 ^ (127 - n)) h below fits ∙ product_pow h (127 - n) (omega arith) ∙ ap (λ (k : ℕ). shifted h k) back

pub product_zero : (h : ℕ) → product 0 h ≡ 0
product_zero h = linear_zero (λ a. product a h) (Linear-left h)

-- by the high two coefficients of a nibble,
high_at : (h u : ℕ) → h < 2 ^ 128 → u < 4 → get_or (0 ∷ times_x h ∷ h ∷ bit_xor h (times_x h) ∷ []) u 0 ≡ product (u * 2 ^ 126) h
unfolding shifted
high_at h zero fits inside = sym (product_zero h)
high_at h (suc zero) fits inside = sym (power_of_x_times h 1 fits (omega arith))
high_at h (suc (suc zero)) fits inside = sym (power_of_x_times h 0 fits (omega arith))
high_at h (suc (suc (suc zero))) fits inside =
    sym ((Linear-left h).sums (2 ^ 127) (2 ^ 126)
    ∙ ap (λ (x : ℕ). add x (product (2 ^ 126) h)) (power_of_x_times h 0 fits (omega arith))
    ∙ ap (λ (x : ℕ). add h x) (power_of_x_times h 1 fits (omega arith)))
high_at h (suc (suc (suc (suc u)))) fits inside = absurd (omega arith)

-- and by the low two
low_at : (h u : ℕ) → h < 2 ^ 128 → u < 4
    → get_or (0 ∷ times_x (times_x (times_x h)) ∷ times_x (times_x h) ∷ bit_xor (times_x (times_x h)) (times_x (times_x (times_x h))) ∷ []) u 0 ≡ product (u * 2 ^ 124) h
unfolding shifted
low_at h zero fits inside = sym (product_zero h)
low_at h (suc zero) fits inside = sym (power_of_x_times h 3 fits (omega arith))
low_at h (suc (suc zero)) fits inside = sym (power_of_x_times h 2 fits (omega arith))
low_at h (suc (suc (suc zero))) fits inside =
    sym ((Linear-left h).sums (2 ^ 125) (2 ^ 124)
    ∙ ap (λ (x : ℕ). add x (product (2 ^ 124) h)) (power_of_x_times h 2 fits (omega arith))
    ∙ ap (λ (x : ℕ). add (times_x (times_x h)) x) (power_of_x_times h 3 fits (omega arith)))
low_at h (suc (suc (suc (suc u)))) fits inside = absurd (omega arith)

-- the polynomial of a nibble, by its two halves
halves_of_nibble : (i : ℕ) → i < 16 → polynomial i ≡ add (i / 4 * 2 ^ 126) (i % 4 * 2 ^ 124)
halves_of_nibble i h = same_along 16 polynomial (λ i. add (i / 4 * 2 ^ 126) (i % 4 * 2 ^ 124)) refl i h

-- an entry as the body makes it, of h and its products by x to the powers 1, 2 and 3
abbrev entry_made : (h x1 x2 x3 i : ℕ) → ℕ
entry_made h x1 x2 x3 i = bit_xor (get_or (0 ∷ x1 ∷ h ∷ bit_xor h x1 ∷ []) (i / 4) 0) (get_or (0 ∷ x3 ∷ x2 ∷ bit_xor x2 x3 ∷ []) (i % 4) 0)

entry_is : (h x1 x2 x3 i : ℕ) → h < 2 ^ 128 → i < 16 → x1 ≡ times_x h → x2 ≡ times_x x1 → x3 ≡ times_x x2 → entry_made h x1 x2 x3 i ≡ product (polynomial i) h
entry_is h x1 x2 x3 i fits inside e1 e2 e3 =
    let two = e2 ∙ ap times_x e1 in
    let three = e3 ∙ ap times_x two in
    rw (three, two, e1)
    (ap (λ (x : ℕ). bit_xor x (get_or (0 ∷ times_x (times_x (times_x h)) ∷ times_x (times_x h) ∷ bit_xor (times_x (times_x h)) (times_x (times_x (times_x h))) ∷ []) (i % 4) 0)) (high_at h (i / 4) fits (omega arith))
    ∙ ap (λ (x : ℕ). bit_xor (product (i / 4 * 2 ^ 126) h) x) (low_at h (i % 4) fits (omega arith))
    ∙ sym ((Linear-left h).sums (i / 4 * 2 ^ 126) (i % 4 * 2 ^ 124))
    ∙ ap (λ (p : ℕ). product p h) (sym (halves_of_nibble i inside)))

-- the entries as a list
multiples_filled : (h : ℕ) (entries : List ℕ) → length entries ≡ 16 → ((i : ℕ) → i < 16 → get_or entries i 0 ≡ product (polynomial i) h) → entries ≡ multiples h
unfolding multiples
multiples_filled h entries size each = fill_by_all (λ nibble. product (polynomial nibble) h) entries 16 0 size each

-- as the body makes them
pub multiples_made : (h x1 x2 x3 : ℕ) → h < 2 ^ 128 → x1 ≡ times_x h → x2 ≡ times_x x1 → x3 ≡ times_x x2 → map (entry_made h x1 x2 x3) (range_with_len 0 16) ≡ multiples h
multiples_made h x1 x2 x3 fits e1 e2 e3 =
    multiples_filled h (map (entry_made h x1 x2 x3) (range_with_len 0 16)) refl
    (λ i inside. get_or-map-range_with_len (entry_made h x1 x2 x3) 0 16 i i 0 inside (omega arith) ∙ entry_is h x1 x2 x3 i fits inside e1 e2 e3)

pub multiple_at : (h i : ℕ) → i < 16 → get_or (multiples h) i 0 ≡ product (polynomial i) h
unfolding multiples
multiple_at h i inside = get_or-map-range_with_len (λ nibble. product (polynomial nibble) h) 0 16 i i 0 inside (omega arith)

-- the nibble 8 spells 1
pub multiple_by_one : (h : ℕ) → h < 2 ^ 128 → product (polynomial 8) h ≡ h
unfolding shifted
multiple_by_one h fits = power_of_x_times h 0 fits (omega arith)

-- an octet by its two nibbles
halves_of_octet : (octet : ℕ) → octet < 256 → octet * 2 ^ 120 ≡ add (polynomial (octet / 16)) (octet % 16 * 2 ^ 120)
halves_of_octet octet h = same_along 256 (λ octet. octet * 2 ^ 120) (λ octet. add (polynomial (octet / 16)) (octet % 16 * 2 ^ 120)) refl octet h

-- the product by the polynomial of degree below 8 that an octet spells
pub octet_at : (h moved octet : ℕ) → h < 2 ^ 128 → octet < 256 → moved ≡ shifted h 4
    → add (product (polynomial (octet / 16)) h) (product (polynomial (octet % 16)) moved) ≡ product (octet * 2 ^ 120) h
octet_at h moved octet fits inside moved_is =
    let whole : polynomial (octet % 16) ≡ octet % 16 * 2 ^ 120 * 2 ^ 4 = omega arith in
    let small : polynomial (octet % 16) < 2 ^ 128 = omega arith in
    let low : product (polynomial (octet % 16)) (shifted h 4) ≡ product (octet % 16 * 2 ^ 120) h =
    product_shifted 4 (polynomial (octet % 16)) h small fits ∙ sym (shifted_left 4 (polynomial (octet % 16)) h)
    ∙ ap (λ (x : ℕ). product x h) (ap (λ (x : ℕ). shifted x 4) whole ∙ shifted_whole 4 (octet % 16 * 2 ^ 120)) in
    ap (λ (x : ℕ). add (product (polynomial (octet / 16)) h) (product (polynomial (octet % 16)) x)) moved_is
    ∙ ap (λ (x : ℕ). add (product (polynomial (octet / 16)) h) x) low
    ∙ sym ((Linear-left h).sums (polynomial (octet / 16)) (octet % 16 * 2 ^ 120))
    ∙ ap (λ (x : ℕ). product x h) (sym (halves_of_octet octet inside))

-- ---- a product, w coefficients after another

-- the low k bits of an element, moved to the top
abbrev pub low_part : ℕ → ℕ → ℕ
low_part v k = v % 2 ^ k * 2 ^ (128 - k)

low_part_even : (w v k : ℕ) → k + w ≤ 128 → low_part v k ≡ v % 2 ^ k * 2 ^ (128 - w - k) * 2 ^ w
low_part_even w v k inside =
    let size : 128 - k ≡ 128 - w - k + w = omega arith in
    ap (λ (n : ℕ). v % 2 ^ k * 2 ^ n) size ∙ ap (λ (x : ℕ). v % 2 ^ k * x) (pow-add 2 (128 - w - k) w)
    ∙ sym (mul_assoc (v % 2 ^ k) (2 ^ (128 - w - k)) (2 ^ w))

low_part_next : (w v k : ℕ) → k + w ≤ 128 → low_part v (k + w) ≡ add (v % 2 ^ k * 2 ^ (128 - w - k)) (v / 2 ^ k % 2 ^ w * 2 ^ (128 - w))
low_part_next w v k inside =
    let room : 128 - (k + w) ≡ 128 - w - k = omega arith in
    let turned : k + w ≡ w + k = omega arith in
    let whole : k + (128 - w - k) ≡ 128 - w = omega arith in
    let joined : 2 ^ k * 2 ^ (128 - w - k) ≡ 2 ^ (128 - w) = sym (pow-add 2 k (128 - w - k)) ∙ ap (λ (n : ℕ). 2 ^ n) whole in
    let small : v % 2 ^ k < 2 ^ k = mod_below v (2 ^ k) (pow_pos k) in
    let low : v % 2 ^ k * 2 ^ (128 - w - k) < 2 ^ k * 2 ^ (128 - w - k) = mul-lt-mul_of_pos_right small (pow_pos (128 - w - k)) in
    ap (λ (n : ℕ). v % 2 ^ (k + w) * 2 ^ n) room
    ∙ ap (λ (n : ℕ). v % 2 ^ n * 2 ^ (128 - w - k)) turned
    ∙ ap (λ (x : ℕ). x * 2 ^ (128 - w - k)) (mod-pow-add v w k)
    ∙ add-mul (v / 2 ^ k % 2 ^ w * 2 ^ k) (v % 2 ^ k) (2 ^ (128 - w - k))
    ∙ ap (λ (x : ℕ). x + v % 2 ^ k * 2 ^ (128 - w - k)) (mul_assoc (v / 2 ^ k % 2 ^ w) (2 ^ k) (2 ^ (128 - w - k)) ∙ ap (λ (x : ℕ). v / 2 ^ k % 2 ^ w * x) joined)
    ∙ apart (128 - w) (v / 2 ^ k % 2 ^ w) (v % 2 ^ k * 2 ^ (128 - w - k)) (omega arith)

-- w coefficients more
product_next : (w h v k : ℕ) → k + w ≤ 128 → product (low_part v (k + w)) h ≡ add (shifted (product (low_part v k) h) w) (product (v / 2 ^ k % 2 ^ w * 2 ^ (128 - w)) h)
product_next w h v k inside =
    ap (λ (x : ℕ). product x h) (low_part_next w v k inside)
    ∙ (Linear-left h).sums (v % 2 ^ k * 2 ^ (128 - w - k)) (v / 2 ^ k % 2 ^ w * 2 ^ (128 - w))
    ∙ ap (λ (x : ℕ). add x (product (v / 2 ^ k % 2 ^ w * 2 ^ (128 - w)) h))
    (ap (λ (x : ℕ). product x h) (sym (ap (λ (x : ℕ). shifted x w) (low_part_even w v k inside) ∙ shifted_whole w (v % 2 ^ k * 2 ^ (128 - w - k))))
    ∙ shifted_left w (low_part v k) h)

product_none : (h v : ℕ) → 0 ≡ product (low_part v 0) h
product_none h v =
    let none : v % 1 * 2 ^ 128 ≡ 0 = omega arith in
    sym (ap (λ (x : ℕ). product x h) none ∙ product_zero h)

product_all : (h v : ℕ) → v < 2 ^ 128 → product (low_part v 128) h ≡ product v h
product_all h v fits =
    let whole : v % 2 ^ 128 * 1 ≡ v = omega arith in
    ap (λ (x : ℕ). product x h) whole

-- what is left of a number, w bits later
left_next : (w v rest k : ℕ) → rest ≡ v / 2 ^ k → rest / 2 ^ w ≡ v / 2 ^ (k + w)
left_next w v rest k is = ap (λ (x : ℕ). x / 2 ^ w) is ∙ shr-shr v k w

-- ---- w coefficients after another

-- The sum is the product of the low w i bits of v, moved to the top, and rest is what of v is left.
pub record Stepped (w h v rest sum i : ℕ) : Type 0 where
  pub left : rest ≡ v / 2 ^ (w * i)
  pub done : sum ≡ product (low_part v (w * i)) h

pub stepped_first : (w h v : ℕ) → Stepped w h v v 0 0
stepped_first w h v =
    let none : 0 ≡ w * 0 = sym (mul-zero w) in
    let whole : v ≡ v / 2 ^ 0 = omega arith in
    record {
      left = whole ∙ ap (λ (n : ℕ). v / 2 ^ n) none;
      done = product_none h v ∙ ap (λ (n : ℕ). product (low_part v n) h) none;
    }

pub stepped_more : (w h v rest sum next entry i : ℕ) → w * i + w ≤ 128 → Stepped w h v rest sum i → next ≡ shifted sum w
    → entry ≡ product (rest % 2 ^ w * 2 ^ (128 - w)) h → Stepped w h v (rest / 2 ^ w) (bit_xor next entry) (i + 1)
stepped_more w h v rest sum shifted_sum entry i inside so_far sum_is entry_value =
    let next : suc i ≡ i + 1 = omega arith in
    let more : w * i + w ≡ w * (i + 1) = sym (mul-suc w i) ∙ ap (λ (n : ℕ). w * n) next in
    record {
      left = left_next w v rest (w * i) so_far.left ∙ ap (λ (n : ℕ). v / 2 ^ n) more;
      done =
          ap (λ (x : ℕ). bit_xor x entry) (sum_is ∙ ap (λ (x : ℕ). shifted x w) so_far.done)
          ∙ ap (λ (x : ℕ). bit_xor (shifted (product (low_part v (w * i)) h) w) x)
          (entry_value ∙ ap (λ (x : ℕ). product (x % 2 ^ w * 2 ^ (128 - w)) h) so_far.left)
          ∙ sym (product_next w h v (w * i) inside)
          ∙ ap (λ (n : ℕ). product (low_part v n) h) more;
    }

pub stepped_last : (w h v rest sum i : ℕ) → v < 2 ^ 128 → w * i ≡ 128 → Stepped w h v rest sum i → sum ≡ product v h
stepped_last w h v rest sum i fits all so_far =
    so_far.done ∙ ap (λ (n : ℕ). product (low_part v n) h) all ∙ product_all h v fits

-- ---- two products at once, octet after octet

-- The sum is that of the products of the low 8 i bits of u and of v, moved to the top, and more and rest are what is left.
pub record PairStepped (g h u v more rest sum i : ℕ) : Type 0 where
  pub first : more ≡ u / 2 ^ (8 * i)
  pub second : rest ≡ v / 2 ^ (8 * i)
  pub done : sum ≡ add (product (low_part u (8 * i)) g) (product (low_part v (8 * i)) h)

pub pair_first : (g h u v : ℕ) → PairStepped g h u v u v 0 0
pair_first g h u v = record {
  first = omega arith;
  second = omega arith;
  done = ap (λ (x : ℕ). add x 0) (product_none g u) ∙ ap (λ (x : ℕ). add (product (low_part u 0) g) x) (product_none h v);
}

pub pair_more : (g h u v more rest sum next a b i : ℕ) → i < 16 → PairStepped g h u v more rest sum i → next ≡ shifted sum 8
    → a ≡ product (bit_and more 255 * 2 ^ 120) g → b ≡ product (bit_and rest 255 * 2 ^ 120) h → PairStepped g h u v (more / 256) (rest / 256) (bit_xor (bit_xor next a) b) (i + 1)
pair_more g h u v more rest sum next a b i inside so_far next_is a_is b_is =
    let place : 8 * i + 8 ≡ 8 * (i + 1) = omega arith in
    let a_octet : bit_and more 255 ≡ u / 2 ^ (8 * i) % 256 = and_mask more 8 ∙ ap (λ (x : ℕ). x % 256) so_far.first in
    let b_octet : bit_and rest 255 ≡ v / 2 ^ (8 * i) % 256 = and_mask rest 8 ∙ ap (λ (x : ℕ). x % 256) so_far.second in
    let a_next = a_is ∙ ap (λ (n : ℕ). product (n * 2 ^ 120) g) a_octet in
    let b_next = b_is ∙ ap (λ (n : ℕ). product (n * 2 ^ 120) h) b_octet in
    let p = product (low_part u (8 * i)) g in
    let q = product (low_part v (8 * i)) h in
    record {
      first = left_next 8 u more (8 * i) so_far.first ∙ ap (λ (n : ℕ). u / 2 ^ n) place;
      second = left_next 8 v rest (8 * i) so_far.second ∙ ap (λ (n : ℕ). v / 2 ^ n) place;
      done =
          ap (λ (x : ℕ). bit_xor (bit_xor x a) b) (next_is ∙ ap (λ (x : ℕ). shifted x 8) so_far.done ∙ (Linear-shifted 8).sums p q)
          ∙ xor_assoc (add (shifted p 8) (shifted q 8)) a b
          ∙ add_add (shifted p 8) (shifted q 8) a b
          ∙ ap (λ (x : ℕ). add (add (shifted p 8) x) (add (shifted q 8) b)) a_next
          ∙ ap (λ (x : ℕ). add (add (shifted p 8) (product (u / 2 ^ (8 * i) % 256 * 2 ^ 120) g)) (add (shifted q 8) x)) b_next
          ∙ ap (λ (x : ℕ). add x (add (shifted q 8) (product (v / 2 ^ (8 * i) % 256 * 2 ^ 120) h))) (sym (product_next 8 g u (8 * i) (omega arith)))
          ∙ ap (λ (x : ℕ). add (product (low_part u (8 * i + 8)) g) x) (sym (product_next 8 h v (8 * i) (omega arith)))
          ∙ ap (λ (n : ℕ). add (product (low_part u n) g) (product (low_part v n) h)) place;
    }

pub pair_last : (g h u v more rest sum i : ℕ) → u < 2 ^ 128 → v < 2 ^ 128 → i ≡ 16 → PairStepped g h u v more rest sum i → sum ≡ add (product u g) (product v h)
pair_last g h u v more rest sum i u_fits v_fits end so_far =
    let all : 8 * i ≡ 128 = omega arith in
    so_far.done ∙ ap (λ (n : ℕ). add (product (low_part u n) g) (product (low_part v n) h)) all
    ∙ ap (λ (x : ℕ). add x (product (low_part v 128) h)) (product_all g u u_fits) ∙ ap (λ (x : ℕ). add (product u g) x) (product_all h v v_fits)
