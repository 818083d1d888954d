-- The products of an element by the sixteen polynomials of degree below 4.
use Rattle.std.specs.Prelude.{ℕ, ◌*◌, ◌^◌, List, map}
use Rattle.std.specs.List.{range_with_len}
use Rattle.perc_gcm.specs.Field.{product}

-- the polynomial that a nibble spells, whose high bit is the coefficient of 1
abbrev pub polynomial : ℕ → ℕ
polynomial nibble = nibble * 2 ^ 124

-- the products of h by each of them, in the order of the nibbles
unfoldable pub multiples : ℕ → List ℕ
multiples h = map (λ nibble. product (polynomial nibble) h) (range_with_len 0 16)

-- An element and its products. The nibble 8 spells 1.
pub record Table : Type 0 where
  pub h : ℕ
  pub entries : List ℕ

-- the square of an element
abbrev pub square : ℕ → ℕ
square h = product h h
