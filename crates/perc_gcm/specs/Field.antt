-- The field of 2^128 elements that GHASH computes in (SP 800-38D section 6.3). A block is a polynomial over the field
-- of two elements, modulo x^128 + x^7 + x^2 + x + 1. The coefficient of 1 is its first bit, the high bit of octet 0.
-- An element is the number that the block's octets spell, the first octet highest.
use Rattle.std.specs.Prelude.{ℕ, zero, suc, ◌+◌, ◌-◌, ◌*◌, ◌/◌, ◌%◌, ◌^◌, if◌then◌else◌, ◌==◌, List, [], ◌∷◌, length, bit_xor}
use Rattle.std.specs.Int.{bit_at}

-- the coefficient of x to the power i
abbrev pub coefficient : ℕ → ℕ → ℕ
coefficient v i = bit_at v (127 - i)

-- the sum of two elements
abbrev pub add : ℕ → ℕ → ℕ
add a b = bit_xor a b

-- x to the power 128, which is 1 + x + x^2 + x^7
abbrev pub reduction : ℕ
reduction = 0xe1 * 2 ^ 120

-- an element times x: each coefficient goes one up, and the last of them by way of x to the power 128
unfoldable pub times_x : ℕ → ℕ
times_x v = if v % 2 == 1 then add (v / 2) reduction else v / 2

-- an element times x to the power n
unfoldable pub shifted : ℕ → ℕ → ℕ
shifted a zero = a
shifted a (suc n) = times_x (shifted a n)

-- the sum of a times x to the power i, over the i below n at which b has the coefficient 1
unfoldable pub product_below : ℕ → ℕ → ℕ → ℕ
product_below zero a b = 0
product_below (suc n) a b = add (product_below n a b) (if coefficient b n == 1 then shifted a n else 0)

-- the product of two elements
unfoldable pub product : ℕ → ℕ → ℕ
product a b = product_below 128 a b

-- the element 1
abbrev pub one : ℕ
one = 2 ^ 127

-- h to the power k
unfoldable pub power : ℕ → ℕ → ℕ
power h zero = one
power h (suc k) = product h (power h k)

-- The hash of a list of elements (section 6.4): the sum of each times h to a power, the last times h, and each
-- before it times one power more.
unfoldable pub ghash : ℕ → List ℕ → ℕ
ghash h [] = 0
ghash h (x ∷ xs) = add (product x (power h (length xs + 1))) (ghash h xs)
