-- The digits that words are spelled with.
use Rattle.std.specs.Prelude.{ℕ, ◌+◌, ◌*◌, ◌/◌, ◌%◌, Bool, ◌&&◌, ◌||◌, ◌==◌, not, nat_le, List, length, slice_index}
use Rattle.std.specs.List.{list_all}

-- a hexadecimal digit, in lower case
abbrev pub is_lower_digit : ℕ → Bool
is_lower_digit c = (nat_le 48 c && nat_le c 57) || (nat_le 97 c && nat_le c 102)

-- the value of such a digit: decimal digits are 48 to 57, and letters 97 to 102
abbrev pub digit_value : ℕ → ℕ
digit_value c = c % 16 + 9 * (c / 64)

-- the octet of two such digits
abbrev pub octet_value : ℕ → ℕ → ℕ
octet_value high low = (16 * digit_value high + digit_value low) % 256

-- a decimal digit
abbrev pub is_digit : ℕ → Bool
is_digit c = nat_le 48 c && nat_le c 57

-- decimal digits, one or more, and the first of several isn't zero
unfoldable pub is_numeral : List ℕ → Bool
is_numeral word = list_all is_digit word && not (length word == 0) && (not (slice_index word 0 == 48) || (length word == 1))
