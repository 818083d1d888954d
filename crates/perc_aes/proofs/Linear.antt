-- Sums of numbers bit by bit, and functions that are linear over them.
use Rattle.std.proofs.Common.{◌≡◌, ℕ, zero, suc, ◌+◌, ◌-◌, ◌*◌, ◌^◌, ◌<◌, ◌≤◌, ⊎_elim, sym, ◌∙◌, ap, arith}
use Rattle.std.specs.Int.Bits.{xor_self, xor_zero_l, xor_assoc}
use Rattle.std.proofs.lemmas.Nat.{xor_comm, xor_block, pow_pos}
use Rattle.std.proofs.lemmas.Bool.{cases_lt}
use Rattle.std.proofs.Math.Nat.{pow-suc}
use Rattle.perc_aes.specs.Field.{add}

-- ---- sums

add_swap : (a b c : ℕ) → add a (add b c) ≡ add b (add a c)
add_swap a b c = sym (xor_assoc a b c) ∙ ap (λ (x : ℕ). add x c) (xor_comm a b) ∙ xor_assoc b a c

-- two sums of two, taken the other way round
pub add_add : (a b c d : ℕ) → add (add a b) (add c d) ≡ add (add a c) (add b d)
add_add a b c d =
    xor_assoc a b (add c d) ∙ ap (λ (x : ℕ). add a x) (add_swap b c d) ∙ sym (xor_assoc a c (add b d))

-- ---- linear functions

-- f takes sums to sums
pub record Linear (f : ℕ → ℕ) : Type 0 where
  pub sums : (a b : ℕ) → f (add a b) ≡ add (f a) (f b)

pub linear_zero : (f : ℕ → ℕ) → Linear f → f 0 ≡ 0
linear_zero f is = is.sums 0 0 ∙ xor_self (f 0)

pub Linear-compose : (f g : ℕ → ℕ) → Linear f → Linear g → Linear (λ a. f (g a))
Linear-compose f g is_f is_g = record {
  sums = λ a b. ap f (is_g.sums a b) ∙ is_f.sums (g a) (g b);
}

pub Linear-add : (f g : ℕ → ℕ) → Linear f → Linear g → Linear (λ a. add (f a) (g a))
Linear-add f g is_f is_g = record {
  sums = λ a b. ap (λ (x : ℕ). add x (g (add a b))) (is_f.sums a b) ∙ ap (λ (x : ℕ). add (add (f a) (f b)) x) (is_g.sums a b)
      ∙ add_add (f a) (f b) (g a) (g b);
}

-- a number that has bit n, and none above, without it
split_top : (n a : ℕ) → 2 ^ n ≤ a → a < 2 ^ suc n → (r : ℕ) × ((r < 2 ^ n) × (a ≡ add (2 ^ n) r))
split_top n a has below =
    let twice : 2 ^ suc n ≡ 2 ^ n * 2 = pow-suc 2 n in
    let top : 1 * 2 ^ n + 0 ≡ 2 ^ n = omega arith in
    let low : 0 * 2 ^ n + (a - 2 ^ n) ≡ a - 2 ^ n = omega arith in
    let joined : add (2 ^ n) (a - 2 ^ n) ≡ 1 * 2 ^ n + (a - 2 ^ n) =
    ap (λ (x : ℕ). add x (a - 2 ^ n)) (sym top) ∙ ap (λ (x : ℕ). add (1 * 2 ^ n + 0) x) (sym low)
    ∙ xor_block n 1 0 0 (a - 2 ^ n) (pow_pos n) (omega arith) ∙ ap (λ (x : ℕ). 1 * 2 ^ n + x) (xor_zero_l (a - 2 ^ n)) in
    (a - 2 ^ n, (omega arith, omega arith))

-- Two linear functions that agree at each power of two below 2^n agree at each number below 2^n.
pub agree : (n : ℕ) (f g : ℕ → ℕ) → Linear f → Linear g → ((k : ℕ) → k < n → f (2 ^ k) ≡ g (2 ^ k)) → (a : ℕ) → a < 2 ^ n → f a ≡ g a
agree zero f g is_f is_g same a below =
    let e : a ≡ 0 = omega arith in
    ap f e ∙ linear_zero f is_f ∙ sym (linear_zero g is_g) ∙ sym (ap g e)
agree (suc n) f g is_f is_g same a below =
    ⊎_elim (λ (low : a < 2 ^ n). agree n f g is_f is_g (λ k h. same k (omega arith)) a low)
    (λ (high : 2 ^ n ≤ a).
    let s = split_top n a high below in
    ap f s.1.1 ∙ is_f.sums (2 ^ n) s.0
    ∙ ap (λ (x : ℕ). add x (f s.0)) (same n (omega arith))
    ∙ ap (λ (x : ℕ). add (g (2 ^ n)) x) (agree n f g is_f is_g (λ k h. same k (omega arith)) s.0 s.1.0)
    ∙ sym (is_g.sums (2 ^ n) s.0) ∙ sym (ap g s.1.1))
    (cases_lt a (2 ^ n))
