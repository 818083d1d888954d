-- What the body keeps while it hashes: the hash block by block, from the left.
use Rattle.std.specs.Prelude.{ℕ, List, [], ◌∷◌}
use Rattle.perc_gcm.specs.Field.{add, product}

-- what becomes of the hash y over some blocks under the key h
unfoldable pub running : ℕ → ℕ → List ℕ → ℕ
running h y [] = y
running h y (x ∷ xs) = running h (product (add y x) h) xs
