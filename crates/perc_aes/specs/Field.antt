-- The field of 256 elements that the cipher computes in (FIPS 197 section 4). An octet is a polynomial over the
-- field of two elements, its low bit the coefficient of 1, modulo x^8 + x^4 + x^3 + x + 1.
use Rattle.std.specs.Prelude.{ℕ, zero, suc, ◌*◌, ◌/◌, ◌%◌, if◌then◌else◌, ◌==◌, List, [], ◌∷◌, find, bit_xor}
use Rattle.std.specs.Int.{bit_at}
use Rattle.std.specs.List.{range_with_len}
use Rattle.std.specs.Option.{unwrap_or}

-- the modulus
abbrev pub modulus : ℕ
modulus = 0x11b

-- the sum of two octets
abbrev pub add : ℕ → ℕ → ℕ
add a b = bit_xor a b

-- the sum of a list of octets
abbrev pub total : List ℕ → ℕ
total [] = 0
total (a ∷ rest) = add a (total rest)

-- an octet times x: the modulus is taken off where the result has bit 8
abbrev pub times_x : ℕ → ℕ
times_x a = if bit_at (2 * a) 8 == 1 then add (2 * a) modulus else 2 * a

-- x to the power i
unfoldable pub power_of_x : ℕ → ℕ
power_of_x zero = 1
power_of_x (suc i) = times_x (power_of_x i)

-- the sum, over the set bits i of b below n, of a times x to the power i
unfoldable pub product_below : ℕ → ℕ → ℕ → ℕ
product_below zero a b = 0
product_below (suc n) a b = add (if b % 2 == 1 then a else 0) (product_below n (times_x a) (b / 2))

-- the product of two octets
unfoldable pub product : ℕ → ℕ → ℕ
product a b = product_below 8 a b

-- The octet whose product with a is 1. 0 has none, and stands for itself.
unfoldable pub inverse : ℕ → ℕ
inverse a = if a == 0 then 0 else unwrap_or (find (λ b. product a b == 1) (range_with_len 0 256)) 0
