-- The block cipher AES (FIPS 197). A block, a key, a word and a key schedule are lists of octets.
use Rattle.std.specs.Prelude.{◌≡◌, ℕ, zero, suc, ◌+◌, ◌-◌, ◌*◌, ◌/◌, ◌%◌, ◌^◌, ◌⊎◌, if◌then◌else◌, ◌==◌, ◌&&◌, nat_lt, List, [], ◌∷◌, ◌++◌, length, map, take, drop, slice_index, slice_index_or}
use Rattle.std.specs.Int.{bit_at}
use Rattle.std.specs.List.{range_with_len, sum_by}
use Rattle.perc_octets.specs.Octets.{AreOctets}
use Rattle.perc_aes.specs.Field.{add, total, power_of_x, product, inverse}

-- ---- the state (section 3.4): four rows and four columns of octets, column after column

-- the octet in row r and column c
abbrev pub cell : List ℕ → ℕ → ℕ → ℕ
cell s r c = slice_index s (r + 4 * c)

-- the state with the octet f r c in row r and column c
abbrev pub state_of : (ℕ → ℕ → ℕ) → List ℕ
state_of f = map (λ k. f (k % 4) (k / 4)) (range_with_len 0 16)

-- ---- SubBytes (section 5.1.1)

-- bit i of the affine map of an octet
abbrev pub affine_bit : ℕ → ℕ → ℕ
affine_bit b i =
    total (bit_at b i ∷ bit_at b ((i + 4) % 8) ∷ bit_at b ((i + 5) % 8) ∷ bit_at b ((i + 6) % 8) ∷ bit_at b ((i + 7) % 8) ∷ bit_at 0x63 i ∷ [])

-- the S-box: the affine map of the inverse
unfoldable pub sub_octet : ℕ → ℕ
sub_octet b = sum_by (λ i. affine_bit (inverse b) i * 2 ^ i) (range_with_len 0 8)

-- the S-box at each octet
unfoldable pub sub_bytes : List ℕ → List ℕ
sub_bytes s = map sub_octet s

-- ---- ShiftRows (section 5.1.2): row r turns left by r
unfoldable pub shift_rows : List ℕ → List ℕ
shift_rows s = state_of (λ r c. cell s r ((c + r) % 4))

-- ---- MixColumns (section 5.1.3): each column times a matrix

-- the matrix, row by row
abbrev pub mix_matrix : List (List ℕ)
mix_matrix =
    (2 ∷ 3 ∷ 1 ∷ 1 ∷ []) ∷ (1 ∷ 2 ∷ 3 ∷ 1 ∷ []) ∷ (1 ∷ 1 ∷ 2 ∷ 3 ∷ []) ∷ (3 ∷ 1 ∷ 1 ∷ 2 ∷ []) ∷ []

-- the product of row r of a matrix and column c of a state
abbrev pub row_times_column : List (List ℕ) → List ℕ → ℕ → ℕ → ℕ
row_times_column m s r c =
    total (map (λ k. product (slice_index (slice_index_or m r []) k) (cell s k c)) (range_with_len 0 4))

unfoldable pub mix_columns : List ℕ → List ℕ
mix_columns s = state_of (row_times_column mix_matrix s)

-- ---- AddRoundKey (section 5.1.4)
unfoldable pub add_round_key : List ℕ → List ℕ → List ℕ
add_round_key s round_key = state_of (λ r c. add (cell s r c) (cell round_key r c))

-- ---- key expansion (section 5.2)

-- a word by its four octets
abbrev pub word_from : (ℕ → ℕ) → List ℕ
word_from f = map f (range_with_len 0 4)

-- word i of a list of octets
abbrev pub word_at : List ℕ → ℕ → List ℕ
word_at octets i = word_from (λ k. slice_index octets (4 * i + k))

-- the sum of two words
abbrev pub add_words : List ℕ → List ℕ → List ℕ
add_words v w = word_from (λ k. add (slice_index v k) (slice_index w k))

-- a word turned left by one octet
abbrev pub rotate_word : List ℕ → List ℕ
rotate_word w = word_from (λ k. slice_index w ((k + 1) % 4))

-- the S-box at each octet of a word
abbrev pub sub_word : List ℕ → List ℕ
sub_word w = word_from (λ k. sub_octet (slice_index w k))

-- the constant of a round, from 1 on
abbrev pub round_constant : ℕ → List ℕ
round_constant j = power_of_x (j - 1) ∷ 0 ∷ 0 ∷ 0 ∷ []

-- what word i is made of, from the word before it, beside the word as many places back as the key has words
unfoldable pub schedule_core : ℕ → ℕ → List ℕ → List ℕ
schedule_core key_words i before =
    if i % key_words == 0 then add_words (sub_word (rotate_word before)) (round_constant (i / key_words))
    else (if key_words == 8 && i % 8 == 4 then sub_word before else before)

-- how many words a key has
abbrev pub key_words : List ℕ → ℕ
key_words key = length key / 4

-- word i of the schedule, from the words before it
unfoldable pub next_word : List ℕ → List ℕ → ℕ → List ℕ
next_word key words i =
    if nat_lt i (key_words key) then word_at key i
    else add_words (word_at words (i - key_words key)) (schedule_core (key_words key) i (word_at words (i - 1)))

-- the first n words of the schedule of a key, end to end
unfoldable pub schedule : List ℕ → ℕ → List ℕ
schedule key zero = []
schedule key (suc n) = schedule key n ++ next_word key (schedule key n) n

-- ---- the cipher (section 5.1)

-- how many rounds there are: 10, 12 or 14
abbrev pub rounds : List ℕ → ℕ
rounds key = key_words key + 6

-- the four words that a round adds
unfoldable pub round_key : List ℕ → ℕ → List ℕ
round_key key round = take 16 (drop (16 * round) (schedule key (4 * (rounds key + 1))))

-- a block after this many whole rounds
unfoldable pub state_after : List ℕ → List ℕ → ℕ → List ℕ
state_after key block zero = add_round_key block (round_key key 0)
state_after key block (suc n) =
    add_round_key (mix_columns (shift_rows (sub_bytes (state_after key block n)))) (round_key key (suc n))

-- the last round has no MixColumns
unfoldable pub last_round : List ℕ → List ℕ → List ℕ
last_round key s = add_round_key (shift_rows (sub_bytes s)) (round_key key (rounds key))

-- what the cipher makes of a block under a key
unfoldable pub aes : List ℕ → List ℕ → List ℕ
aes key block = last_round key (state_after key block (rounds key - 1))

-- ---- blocks and keys

-- This is a block: 16 octets.
pub record IsBlock (b : List ℕ) : Type 0 where
  pub size : length b ≡ 16
  pub octets : AreOctets b

-- a key has 16, 24 or 32 octets
abbrev pub IsKeyLength : ℕ → Type 0
IsKeyLength n = (n ≡ 16) ⊎ ((n ≡ 24) ⊎ (n ≡ 32))

-- This is a key.
pub record IsKey (key : List ℕ) : Type 0 where
  pub size : IsKeyLength (length key)
  pub octets : AreOctets key
