-- Tags are compared by their differences.
use Rattle.std.proofs.Common.{◌≡◌, ℕ, bit_or, bit_xor, sym, ◌∙◌, ap, arith}
use Rattle.std.specs.Int.Bits.{xor_self, xor_zero_l, xor_zero_r, xor_assoc}
use Rattle.std.proofs.lemmas.Nat.{le_or_l, le_or_r}

pub xor_none : (a b : ℕ) → bit_xor a b ≡ 0 → a ≡ b
xor_none a b e =
    sym (xor_zero_r a) ∙ ap (λ (x : ℕ). bit_xor a x) (sym (xor_self b)) ∙ sym (xor_assoc a b b)
    ∙ ap (λ (x : ℕ). bit_xor x b) e ∙ xor_zero_l b

pub or_none : (d x : ℕ) → bit_or d x ≡ 0 → (d ≡ 0) × (x ≡ 0)
or_none d x e = (omega (arith, le_or_l d x), omega (arith, le_or_r d x))

pub none_or : (d a b : ℕ) → d ≡ 0 → a ≡ b → bit_or d (bit_xor a b) ≡ 0
none_or d a b e same =
    ap (λ (x : ℕ). bit_or x (bit_xor a b)) e ∙ ap (λ (x : ℕ). bit_or 0 (bit_xor x b)) same
    ∙ ap (λ (x : ℕ). bit_or 0 x) (xor_self b)
