-- Words as numbers of 32 bits, the first octet of a word its highest. A state is four words, one for each column, and
-- a key schedule is kept as its words.
use Rattle.std.specs.Prelude.{ℕ, ◌+◌, ◌%◌, List, [], ◌∷◌, map, slice_index}
use Rattle.std.specs.Int.{w32, to_be_bytes}
use Rattle.std.specs.List.{flat_map}
use Rattle.perc_aes.specs.Field.{total, product}
use Rattle.perc_aes.specs.Cipher.{row_times_column, word_from}
use Rattle.perc_aes.specs.declared.state.State.{State}

-- the four octets of a word
unfoldable pub octets_of_word : ℕ → List ℕ
octets_of_word word = to_be_bytes w32 word

-- the octets of words, one word after another
unfoldable pub octets_of_words : List ℕ → List ℕ
octets_of_words words = flat_map octets_of_word words

-- the octets of a state, column after column
unfoldable pub octets_of : State → List ℕ
octets_of s = octets_of_words (s.a ∷ s.b ∷ s.c ∷ s.d ∷ [])

-- the state of the four words from a place on
abbrev pub state_at : List ℕ → ℕ → State
state_at words place =
    record { a = slice_index words place; b = slice_index words (place + 1); c = slice_index words (place + 2); d = slice_index words (place + 3) }

-- an octet times each of these
abbrev pub multiples : List ℕ → ℕ → List ℕ
multiples factors octet = map (λ k. product k octet) factors

-- the sum of four words
abbrev pub sum_of_four : List ℕ → List ℕ → List ℕ → List ℕ → List ℕ
sum_of_four p q r s = word_from (λ k. total (slice_index p k ∷ slice_index q k ∷ slice_index r k ∷ slice_index s k ∷ []))

-- the sum of four words, each turned right by one octet more than the one before
abbrev pub turned_sum : List ℕ → List ℕ → List ℕ → List ℕ → List ℕ
turned_sum p q r s =
    word_from (λ k. total (slice_index p k ∷ slice_index q ((k + 3) % 4) ∷ slice_index r ((k + 2) % 4) ∷ slice_index s ((k + 1) % 4) ∷ []))

-- a matrix times one column
abbrev pub times_column : List (List ℕ) → List ℕ → List ℕ
times_column m column = word_from (λ r. row_times_column m column r 0)

-- the octet in the first row of the first column, in the second row of the second, and so on
abbrev pub diagonal : ℕ → ℕ → ℕ → ℕ → List ℕ
diagonal a b c d =
    slice_index (octets_of_word a) 0 ∷ slice_index (octets_of_word b) 1 ∷ slice_index (octets_of_word c) 2 ∷ slice_index (octets_of_word d) 3 ∷ []
