-- The tables against the S-box's definition.
use Rattle.std.proofs.Common.{◌≡◌, ℕ, ◌<◌, List, [], ◌∷◌, map, get_or, refl, sym, ◌∙◌, ap, arith}
use Rattle.std.specs.List.{range_with_len}
use Rattle.std.proofs.lemmas.List.FromFn.{get_or-map-range_with_len}
use Rattle.perc_aes.specs.Field.{power_of_x, product, product_below, inverse}
use Rattle.std.specs.Int.{w32, from_be_bytes}
use Rattle.perc_aes.specs.Cipher.{sub_octet}
use Rattle.perc_aes.specs.Inverse.{inverse_sub_octet}
use Rattle.perc_aes.specs.Words.{multiples}
use Rattle.perc_aes.specs.declared.tables.TheConstants.{S_BOX, INVERSE_S_BOX, MIXED, MIXED_ROW_1, MIXED_ROW_2, MIXED_ROW_3, UNMIXED, INVERSE_COLUMNS, ROUND_CONSTANTS}
use Rattle.perc_aes.proofs.Octets.{same_octets, below_256}

-- the whole table, computed
s_box_computed : map sub_octet (range_with_len 0 256) ≡ S_BOX
unfolding sub_octet inverse product product_below
s_box_computed = refl

pub s_box_at : (b : ℕ) → b < 256 → get_or S_BOX b 0 ≡ sub_octet b
s_box_at b in_range =
    ap (λ (xs : List ℕ). get_or xs b 0) (sym s_box_computed) ∙ get_or-map-range_with_len sub_octet 0 256 b b 0 in_range (omega arith)

pub sub_octet_in_range : (b : ℕ) → b < 256 → sub_octet b < 256
sub_octet_in_range b in_range =
    rw (s_box_at b in_range) at (below_256 (λ b. get_or S_BOX b 0) refl b in_range)

pub inverse_sub_octet_in_range : (b : ℕ) → b < 256 → inverse_sub_octet b < 256
unfolding inverse_sub_octet
inverse_sub_octet_in_range b in_range = below_256 (λ b. get_or INVERSE_S_BOX b 0) refl b in_range

round_constants_computed : map power_of_x (range_with_len 0 10) ≡ ROUND_CONSTANTS
unfolding power_of_x
round_constants_computed = refl

-- its inverse, on both sides
s_box_inverse : (b : ℕ) → b < 256 → get_or S_BOX (get_or INVERSE_S_BOX b 0) 0 ≡ b
s_box_inverse b in_range = same_octets (λ b. get_or S_BOX (get_or INVERSE_S_BOX b 0) 0) (λ b. b) refl b in_range

inverse_s_box : (b : ℕ) → b < 256 → get_or INVERSE_S_BOX (get_or S_BOX b 0) 0 ≡ b
inverse_s_box b in_range = same_octets (λ b. get_or INVERSE_S_BOX (get_or S_BOX b 0) 0) (λ b. b) refl b in_range

-- the S-box undoes it
pub sub_inverse : (b : ℕ) → b < 256 → sub_octet (inverse_sub_octet b) ≡ b
unfolding inverse_sub_octet
sub_inverse b in_range =
    sym (s_box_at (get_or INVERSE_S_BOX b 0) (inverse_sub_octet_in_range b in_range)) ∙ s_box_inverse b in_range

-- it undoes the S-box
pub inverse_sub : (b : ℕ) → b < 256 → inverse_sub_octet (sub_octet b) ≡ b
unfolding inverse_sub_octet
inverse_sub b in_range =
    ap (λ (x : ℕ). get_or INVERSE_S_BOX x 0) (sym (s_box_at b in_range)) ∙ inverse_s_box b in_range

-- ---- the tables joined with MixColumns and its inverse

pub mixed_at : (b : ℕ) → b < 256 → get_or MIXED b 0 ≡ from_be_bytes w32 (multiples (2 ∷ 1 ∷ 1 ∷ 3 ∷ []) (sub_octet b))
unfolding product product_below
mixed_at b in_range =
    same_octets (λ b. get_or MIXED b 0) (λ b. from_be_bytes w32 (multiples (2 ∷ 1 ∷ 1 ∷ 3 ∷ []) (get_or S_BOX b 0))) refl b in_range
    ∙ ap (λ (v : ℕ). from_be_bytes w32 (multiples (2 ∷ 1 ∷ 1 ∷ 3 ∷ []) v)) (s_box_at b in_range)

pub mixed_row_1_at : (b : ℕ) → b < 256 → get_or MIXED_ROW_1 b 0 ≡ from_be_bytes w32 (multiples (3 ∷ 2 ∷ 1 ∷ 1 ∷ []) (sub_octet b))
unfolding product product_below
mixed_row_1_at b in_range =
    same_octets (λ b. get_or MIXED_ROW_1 b 0) (λ b. from_be_bytes w32 (multiples (3 ∷ 2 ∷ 1 ∷ 1 ∷ []) (get_or S_BOX b 0))) refl b in_range
    ∙ ap (λ (v : ℕ). from_be_bytes w32 (multiples (3 ∷ 2 ∷ 1 ∷ 1 ∷ []) v)) (s_box_at b in_range)

pub mixed_row_2_at : (b : ℕ) → b < 256 → get_or MIXED_ROW_2 b 0 ≡ from_be_bytes w32 (multiples (1 ∷ 3 ∷ 2 ∷ 1 ∷ []) (sub_octet b))
unfolding product product_below
mixed_row_2_at b in_range =
    same_octets (λ b. get_or MIXED_ROW_2 b 0) (λ b. from_be_bytes w32 (multiples (1 ∷ 3 ∷ 2 ∷ 1 ∷ []) (get_or S_BOX b 0))) refl b in_range
    ∙ ap (λ (v : ℕ). from_be_bytes w32 (multiples (1 ∷ 3 ∷ 2 ∷ 1 ∷ []) v)) (s_box_at b in_range)

pub mixed_row_3_at : (b : ℕ) → b < 256 → get_or MIXED_ROW_3 b 0 ≡ from_be_bytes w32 (multiples (1 ∷ 1 ∷ 3 ∷ 2 ∷ []) (sub_octet b))
unfolding product product_below
mixed_row_3_at b in_range =
    same_octets (λ b. get_or MIXED_ROW_3 b 0) (λ b. from_be_bytes w32 (multiples (1 ∷ 1 ∷ 3 ∷ 2 ∷ []) (get_or S_BOX b 0))) refl b in_range
    ∙ ap (λ (v : ℕ). from_be_bytes w32 (multiples (1 ∷ 1 ∷ 3 ∷ 2 ∷ []) v)) (s_box_at b in_range)

pub unmixed_at : (b : ℕ) → b < 256 → get_or UNMIXED b 0 ≡ from_be_bytes w32 (multiples (14 ∷ 9 ∷ 13 ∷ 11 ∷ []) (inverse_sub_octet b))
unfolding product product_below inverse_sub_octet
unmixed_at b in_range =
    same_octets (λ b. get_or UNMIXED b 0) (λ b. from_be_bytes w32 (multiples (14 ∷ 9 ∷ 13 ∷ 11 ∷ []) (get_or INVERSE_S_BOX b 0))) refl b in_range

pub inverse_column_at : (b : ℕ) → b < 256 → get_or INVERSE_COLUMNS b 0 ≡ from_be_bytes w32 (multiples (14 ∷ 9 ∷ 13 ∷ 11 ∷ []) b)
unfolding product product_below
inverse_column_at b in_range =
    same_octets (λ b. get_or INVERSE_COLUMNS b 0) (λ b. from_be_bytes w32 (multiples (14 ∷ 9 ∷ 13 ∷ 11 ∷ []) b)) refl b in_range

-- each constant
pub round_constant_at : (i : ℕ) → i < 10 → get_or ROUND_CONSTANTS i 0 ≡ power_of_x i
round_constant_at i in_range =
    ap (λ (xs : List ℕ). get_or xs i 0) (sym round_constants_computed)
    ∙ get_or-map-range_with_len power_of_x 0 10 i i 0 in_range (omega arith)
