-- What stands in a sink after a text was written to it, where the sink tells its content.
use Rattle.std.specs.Prelude.{◌≡◌, ℕ, ◌++◌, ◌⊎◌, List, [], Option, Some, None, ⊤}
use Rattle.perc_base.specs.Outside.{HasRisen}

-- the text was written, or a beginning of it where a call failed
pub record IsTold (before after told : List ℕ) (faults now : ℕ) : Type 0 where
  pub written : List ℕ
  pub rest : List ℕ
  pub text : told ≡ written ++ rest
  pub out : after ≡ before ++ written
  pub whole : (rest ≡ []) ⊎ HasRisen faults now

-- the same of what a sink tells
abbrev pub Tells : Option (List ℕ) → Option (List ℕ) → List ℕ → ℕ → ℕ → Type 0
Tells None now text faults risen = ⊤
Tells (Some before) now text faults risen = (after : List ℕ) × (now ≡ Some after) × IsTold before after text faults risen
