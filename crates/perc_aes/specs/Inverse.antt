-- The steps of the inverse cipher (FIPS 197 section 5.3).
use Rattle.std.specs.Prelude.{ℕ, ◌+◌, ◌*◌, ◌%◌, List, [], ◌∷◌, map, slice_index}
use Rattle.perc_aes.specs.Cipher.{cell, row_times_column, state_of}
use Rattle.perc_aes.specs.declared.tables.TheConstants.{INVERSE_S_BOX}

-- InvShiftRows (section 5.3.1): row r turns right by r
unfoldable pub inverse_shift_rows : List ℕ → List ℕ
inverse_shift_rows s = state_of (λ r c. cell s r ((c + 3 * r) % 4))

-- InvSubBytes (section 5.3.2): the octet that the S-box takes to this one
unfoldable pub inverse_sub_octet : ℕ → ℕ
inverse_sub_octet b = slice_index INVERSE_S_BOX b

unfoldable pub inverse_sub_bytes : List ℕ → List ℕ
inverse_sub_bytes s = map inverse_sub_octet s

-- InvMixColumns (section 5.3.3): each column times what undoes the matrix of MixColumns

-- that matrix, row by row
abbrev pub unmix_matrix : List (List ℕ)
unmix_matrix =
    (14 ∷ 11 ∷ 13 ∷ 9 ∷ []) ∷ (9 ∷ 14 ∷ 11 ∷ 13 ∷ []) ∷ (13 ∷ 9 ∷ 14 ∷ 11 ∷ []) ∷ (11 ∷ 13 ∷ 9 ∷ 14 ∷ []) ∷ []

unfoldable pub inverse_mix_columns : List ℕ → List ℕ
inverse_mix_columns s = state_of (row_times_column unmix_matrix s)
