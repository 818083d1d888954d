-- What is appended to.
use Rattle.std.specs.Prelude.{◌≡◌, List, ◌++◌, ℕ}

-- The octets begin with the old ones.
pub record StartsWith (new old : List ℕ) : Type 0 where
  pub rest : List ℕ
  pub is : new ≡ old ++ rest
