-- What octets are unwrapped to: the plain text whose wrap they are, which is looked for among all that there are.
use Rattle.std.specs.Prelude.{ℕ, zero, suc, ◌/◌, ◌%◌, ◌^◌, List, [], ◌∷◌, ◌++◌, map, Option}
use Rattle.std.specs.List.{find, range_with_len}
use Rattle.std.specs.Str.{bytes_eq}
use Rattle.perc_keywrap.specs.Wrap.{wrapped}

-- the n octets of a number, the lowest first
unfoldable pub octets_of : ℕ → ℕ → List ℕ
octets_of zero number = []
octets_of (suc n) number = number % 256 ∷ octets_of n (number / 256)

-- each list of n octets, told by its number
unfoldable pub texts : ℕ → List (List ℕ)
texts n = map (octets_of n) (range_with_len 0 (256 ^ n))

-- each list of 1 to n octets, the shorter first
unfoldable pub texts_up_to : ℕ → List (List ℕ)
texts_up_to zero = []
texts_up_to (suc n) = texts_up_to n ++ texts (suc n)

-- the plain text of 1 to 4096 octets whose wrap under the key these octets are, where there is one
unfoldable pub unwrapped : List ℕ → List ℕ → Option (List ℕ)
unwrapped key octets = find (λ plain. bytes_eq (wrapped key plain) octets) (texts_up_to 4096)
