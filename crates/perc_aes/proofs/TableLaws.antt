-- The tables of the columns that MixColumns and InvMixColumns make: the octets of their words.
use Rattle.std.proofs.Common.{◌≡◌, ℕ, ◌<◌, [], ◌∷◌, get_or, arith}
use Rattle.std.specs.Int.{w32, from_be_bytes}
use Rattle.perc_aes.specs.Field.{product}
use Rattle.perc_aes.specs.Cipher.{sub_octet}
use Rattle.perc_aes.specs.Inverse.{inverse_sub_octet}
use Rattle.perc_aes.specs.Words.{multiples, octets_of_word}
use Rattle.perc_aes.specs.declared.tables.TheConstants.{MIXED, MIXED_ROW_1, MIXED_ROW_2, MIXED_ROW_3, UNMIXED, INVERSE_COLUMNS}
use Rattle.perc_aes.proofs.Mixing.{product_in_range}
use Rattle.perc_aes.proofs.SBox.{mixed_at, mixed_row_1_at, mixed_row_2_at, mixed_row_3_at, unmixed_at, inverse_column_at}
use Rattle.perc_aes.proofs.StateLaws.{word_of_four}

-- the word that the products of an octet by four factors are
word_of_products : (f g h i octet n : ℕ) → f < 256 → g < 256 → h < 256 → i < 256 → n ≡ from_be_bytes w32 (multiples (f ∷ g ∷ h ∷ i ∷ []) octet)
    → octets_of_word n ≡ multiples (f ∷ g ∷ h ∷ i ∷ []) octet
word_of_products f g h i octet n in_f in_g in_h in_i is =
    word_of_four (product f octet) (product g octet) (product h octet) (product i octet) n
    (product_in_range f octet in_f) (product_in_range g octet in_g) (product_in_range h octet in_h) (product_in_range i octet in_i) is

pub mixed_octets : (b : ℕ) → b < 256 → octets_of_word (get_or MIXED b 0) ≡ multiples (2 ∷ 1 ∷ 1 ∷ 3 ∷ []) (sub_octet b)
mixed_octets b in_range =
    word_of_products 2 1 1 3 (sub_octet b) (get_or MIXED b 0) (omega arith) (omega arith) (omega arith) (omega arith) (mixed_at b in_range)

pub mixed_row_1_octets : (b : ℕ) → b < 256 → octets_of_word (get_or MIXED_ROW_1 b 0) ≡ multiples (3 ∷ 2 ∷ 1 ∷ 1 ∷ []) (sub_octet b)
mixed_row_1_octets b in_range =
    word_of_products 3 2 1 1 (sub_octet b) (get_or MIXED_ROW_1 b 0) (omega arith) (omega arith) (omega arith) (omega arith) (mixed_row_1_at b in_range)

pub mixed_row_2_octets : (b : ℕ) → b < 256 → octets_of_word (get_or MIXED_ROW_2 b 0) ≡ multiples (1 ∷ 3 ∷ 2 ∷ 1 ∷ []) (sub_octet b)
mixed_row_2_octets b in_range =
    word_of_products 1 3 2 1 (sub_octet b) (get_or MIXED_ROW_2 b 0) (omega arith) (omega arith) (omega arith) (omega arith) (mixed_row_2_at b in_range)

pub mixed_row_3_octets : (b : ℕ) → b < 256 → octets_of_word (get_or MIXED_ROW_3 b 0) ≡ multiples (1 ∷ 1 ∷ 3 ∷ 2 ∷ []) (sub_octet b)
mixed_row_3_octets b in_range =
    word_of_products 1 1 3 2 (sub_octet b) (get_or MIXED_ROW_3 b 0) (omega arith) (omega arith) (omega arith) (omega arith) (mixed_row_3_at b in_range)

pub unmixed_octets : (b : ℕ) → b < 256 → octets_of_word (get_or UNMIXED b 0) ≡ multiples (14 ∷ 9 ∷ 13 ∷ 11 ∷ []) (inverse_sub_octet b)
unmixed_octets b in_range =
    word_of_products 14 9 13 11 (inverse_sub_octet b) (get_or UNMIXED b 0) (omega arith) (omega arith) (omega arith) (omega arith) (unmixed_at b in_range)

pub inverse_column_octets : (b : ℕ) → b < 256 → octets_of_word (get_or INVERSE_COLUMNS b 0) ≡ multiples (14 ∷ 9 ∷ 13 ∷ 11 ∷ []) b
inverse_column_octets b in_range =
    word_of_products 14 9 13 11 b (get_or INVERSE_COLUMNS b 0) (omega arith) (omega arith) (omega arith) (omega arith) (inverse_column_at b in_range)
