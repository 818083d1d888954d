-- A list that is copied to the front of room for 15.
use Rattle.std.proofs.Common.{◌≡◌, ℕ, ◌+◌, ◌≤◌, List, [], ◌∷◌, ◌++◌, length, take, slice_set, refl, sym, ap, ◌∙◌, arith}
use Rattle.std.proofs.lemmas.List.{append-nil, append_assoc, length-set, take_more_set}

-- So many are copied, and these are left.
pub record IsCopied (all out : List ℕ) (count : ℕ) (left : List ℕ) : Type 0 where
  pub size : length out ≡ 15
  pub few : count + length left ≤ 15
  pub parts : take count out ++ left ≡ all

pub none_copied : (all out : List ℕ) → length all ≤ 15 → length out ≡ 15 → IsCopied all out 0 all
none_copied all out few size = record { size = size; few = omega arith; parts = refl }

pub one_copied : (all out : List ℕ) (count : ℕ) (left : List ℕ) (x : ℕ) (more : List ℕ) → IsCopied all out count left → left ≡ x ∷ more
    → IsCopied all (slice_set out count x) (count + 1) more
one_copied all out count left x more is next =
    let counts : length left ≡ length more + 1 = ap length next ∙ omega arith in
    let few = is.few in
    let size = is.size in record {
      size = length-set out count x ∙ is.size;
      few = omega arith;
      parts = ap (λ z. z ++ more) (take_more_set out count x (omega arith)) ∙ append_assoc (take count out) (x ∷ []) more ∙ ap (λ z. take count out ++ z) (sym next) ∙ is.parts;
    }

pub all_copied : (all out : List ℕ) (count : ℕ) (left : List ℕ) → IsCopied all out count left → left ≡ [] → take count out ≡ all
all_copied all out count left is none = sym (append-nil (take count out)) ∙ ap (λ z. take count out ++ z) (sym none) ∙ is.parts
