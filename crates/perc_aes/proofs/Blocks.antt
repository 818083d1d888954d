-- The steps of a round on blocks: what a loop over the 16 octets makes, and what undoes each step.
use Rattle.std.proofs.Common.{◌≡◌, ℕ, zero, suc, ◌+◌, ◌*◌, ◌/◌, ◌%◌, ◌<◌, ◌≤◌, List, length, map, get_or, ⊎_elim, refl, sym, ◌∙◌, ap, arith}
use Rattle.std.specs.Int.Bits.{xor_self, xor_zero_r, xor_assoc}
use Rattle.std.specs.List.{range_with_len}
use Rattle.std.proofs.lemmas.Nat.{xor_lt}
use Rattle.std.proofs.lemmas.Bool.{cases_lt}
use Rattle.std.proofs.lemmas.List.{ext_get_or, length-map, get_or-map, get_or_past}
use Rattle.std.proofs.lemmas.List.FromFn.{fill_by_all, get_or-map-range_with_len}
use Rattle.perc_aes.specs.Field.{add, product}
use Rattle.perc_aes.specs.Cipher.{cell, state_of, sub_octet, sub_bytes, shift_rows, mix_matrix, row_times_column, mix_columns, add_round_key, word_at, IsBlock}
use Rattle.perc_octets.specs.Octets.{AreOctets}
use Rattle.perc_aes.specs.Inverse.{inverse_mix_columns, inverse_shift_rows, inverse_sub_bytes, inverse_sub_octet, unmix_matrix}
use Rattle.perc_aes.specs.Words.{octets_of, octets_of_word, octets_of_words}
use Rattle.perc_aes.specs.declared.state.State.{State}
use Rattle.perc_aes.proofs.StateLaws.{same_words}
use Rattle.perc_aes.proofs.SBox.{sub_octet_in_range, inverse_sub, inverse_sub_octet_in_range, sub_inverse}
use Rattle.perc_aes.proofs.Mixing.{total_add, total_same, product_add, product_in_range, entry, Undoes, undone, mix_undoes, unmix_undoes}

-- ---- a state by its cells

-- octet k of a state
state_at : (f : ℕ → ℕ → ℕ) (k : ℕ) → k < 16 → get_or (state_of f) k 0 ≡ f (k % 4) (k / 4)
state_at f k in_block = get_or-map-range_with_len (λ k. f (k % 4) (k / 4)) 0 16 k k 0 in_block (omega arith)

cell_state : (f : ℕ → ℕ → ℕ) (r c : ℕ) → r < 4 → c < 4 → cell (state_of f) r c ≡ f r c
cell_state f r c in_rows in_columns =
    let r_is : (r + 4 * c) % 4 ≡ r = omega arith in
    let c_is : (r + 4 * c) / 4 ≡ c = omega arith in
    rw (r_is, c_is) at (state_at f (r + 4 * c) (omega arith))

-- a list of 16 octets that are the state's is the state
state_filled : (f : ℕ → ℕ → ℕ) (b : List ℕ) → length b ≡ 16 → ((k : ℕ) → k < 16 → get_or b k 0 ≡ f (k % 4) (k / 4)) → b ≡ state_of f
state_filled f b size same = fill_by_all (λ k. f (k % 4) (k / 4)) b 16 0 size same

-- the same by rows and columns
state_cells : (f : ℕ → ℕ → ℕ) (b : List ℕ) → length b ≡ 16 → ((r c : ℕ) → r < 4 → c < 4 → cell b r c ≡ f r c) → b ≡ state_of f
state_cells f b size same =
    state_filled f b size (λ k in_block.
    let k_is : k % 4 + 4 * (k / 4) ≡ k = omega arith in
    rw k_is at (same (k % 4) (k / 4) (omega arith) (omega arith)))

-- the state that a block is
pub state_of_block : (b : List ℕ) (s : State) → length b ≡ 16 → octets_of_word s.a ≡ word_at b 0 → octets_of_word s.b ≡ word_at b 1
    → octets_of_word s.c ≡ word_at b 2 → octets_of_word s.d ≡ word_at b 3 → octets_of s ≡ b
unfolding octets_of octets_of_words
state_of_block b s size first second third fourth =
    same_words _ _ _ _ _ _ _ _ first second third fourth
    ∙ sym (state_filled (λ r c. cell b r c) b size (λ k in_block. ap (λ (i : ℕ). get_or b i 0) (omega arith)))

-- a state of octets is a block
IsBlock-state : (f : ℕ → ℕ → ℕ) → ((r c : ℕ) → r < 4 → c < 4 → f r c < 256) → IsBlock (state_of f)
IsBlock-state f in_range = record {
  size = refl;
  octets = λ k.
      ⊎_elim (λ (inside : k < 16). rw (state_at f k inside) (in_range (k % 4) (k / 4) (omega arith) (omega arith)))
      (λ (past : 16 ≤ k). rw (get_or_past (state_of f) k 0 past) (omega arith))
      (cases_lt k 16);
}

-- ---- SubBytes

sub_filled : (s b : List ℕ) → length s ≡ 16 → length b ≡ 16 → ((k : ℕ) → k < 16 → get_or b k 0 ≡ sub_octet (get_or s k 0)) → b ≡ sub_bytes s
unfolding sub_bytes
sub_filled s b size_s size_b same =
    ext_get_or 0 b (map sub_octet s) (size_b ∙ sym size_s ∙ sym (length-map s sub_octet))
    (λ k inside. same k (omega arith) ∙ sym (get_or-map sub_octet s k 0 0 (omega arith)))

sub_at : (s : List ℕ) (k : ℕ) → k < length s → get_or (sub_bytes s) k 0 ≡ sub_octet (get_or s k 0)
unfolding sub_bytes
sub_at s k inside = get_or-map sub_octet s k 0 0 inside

length-sub_bytes : (s : List ℕ) → length (sub_bytes s) ≡ length s
unfolding sub_bytes
length-sub_bytes s = length-map s sub_octet

pub IsBlock-sub_bytes : (s : List ℕ) → IsBlock s → IsBlock (sub_bytes s)
IsBlock-sub_bytes s block = record {
  size = length-sub_bytes s ∙ block.size;
  octets = λ k.
      ⊎_elim (λ (inside : k < 16). rw (sub_at s k (omega (arith, block.size))) (sub_octet_in_range (get_or s k 0) (block.octets k)))
      (λ (past : 16 ≤ k). rw (get_or_past (sub_bytes s) k 0 (omega (arith, length-sub_bytes s, block.size))) (omega arith))
      (cases_lt k 16);
}

-- two blocks with the same image are the same
pub sub_injective : (a b : List ℕ) → IsBlock a → IsBlock b → sub_bytes a ≡ sub_bytes b → a ≡ b
sub_injective a b block_a block_b same =
    ext_get_or 0 a b (block_a.size ∙ sym block_b.size)
    (λ k inside.
    sym (inverse_sub (get_or a k 0) (block_a.octets k))
    ∙ ap inverse_sub_octet (sym (sub_at a k inside) ∙ ap (λ (s : List ℕ). get_or s k 0) same ∙ sub_at b k (omega (arith, block_a.size, block_b.size)))
    ∙ inverse_sub (get_or b k 0) (block_b.octets k))

inverse_at : (s : List ℕ) (k : ℕ) → k < length s → get_or (inverse_sub_bytes s) k 0 ≡ inverse_sub_octet (get_or s k 0)
unfolding inverse_sub_bytes
inverse_at s k inside = get_or-map inverse_sub_octet s k 0 0 inside

length-inverse_sub_bytes : (s : List ℕ) → length (inverse_sub_bytes s) ≡ length s
unfolding inverse_sub_bytes
length-inverse_sub_bytes s = length-map s inverse_sub_octet

pub IsBlock-inverse_sub_bytes : (s : List ℕ) → IsBlock s → IsBlock (inverse_sub_bytes s)
IsBlock-inverse_sub_bytes s block = record {
  size = length-inverse_sub_bytes s ∙ block.size;
  octets = λ k.
      ⊎_elim (λ (inside : k < 16). rw (inverse_at s k (omega (arith, block.size))) (inverse_sub_octet_in_range (get_or s k 0) (block.octets k)))
      (λ (past : 16 ≤ k). rw (get_or_past (inverse_sub_bytes s) k 0 (omega (arith, length-inverse_sub_bytes s, block.size))) (omega arith))
      (cases_lt k 16);
}

-- SubBytes undoes its inverse
pub sub_undone : (s : List ℕ) → IsBlock s → sub_bytes (inverse_sub_bytes s) ≡ s
sub_undone s block =
    let size : length (inverse_sub_bytes s) ≡ 16 = length-inverse_sub_bytes s ∙ block.size in
    sym (sub_filled (inverse_sub_bytes s) s size block.size
    (λ k in_block.
    sym (ap sub_octet (inverse_at s k (omega (arith, block.size))) ∙ sub_inverse (get_or s k 0) (block.octets k))))

-- ---- ShiftRows

-- the place in the row before the shift
shifted_place : (k : ℕ) → k < 16 → (k + 4 * (k % 4)) % 16 ≡ k % 4 + 4 * ((k / 4 + k % 4) % 4)
shifted_place k in_block = omega arith

shift_filled : (s b : List ℕ) → length b ≡ 16 → ((k : ℕ) → k < 16 → get_or b k 0 ≡ get_or s ((k + 4 * (k % 4)) % 16) 0) → b ≡ shift_rows s
unfolding shift_rows
shift_filled s b size same =
    state_filled (λ r c. cell s r ((c + r) % 4)) b size
    (λ k in_block. same k in_block ∙ ap (λ (i : ℕ). get_or s i 0) (shifted_place k in_block))

-- ShiftRows undoes its inverse
pub shift_undone : (s : List ℕ) → IsBlock s → shift_rows (inverse_shift_rows s) ≡ s
unfolding inverse_shift_rows
shift_undone s block =
    sym (shift_filled (inverse_shift_rows s) s block.size
    (λ k in_block.
    let place : ℕ = (k + 4 * (k % 4)) % 16 in
    let here : place % 4 + 4 * ((place / 4 + 3 * (place % 4)) % 4) ≡ k = omega arith in
    sym (rw here at (state_at (λ r c. cell s r ((c + 3 * r) % 4)) place (omega arith)))))

pub IsBlock-inverse_shift_rows : (s : List ℕ) → IsBlock s → IsBlock (inverse_shift_rows s)
unfolding inverse_shift_rows
IsBlock-inverse_shift_rows s block =
    IsBlock-state (λ r c. cell s r ((c + 3 * r) % 4)) (λ r c _ _. block.octets (r + 4 * ((c + 3 * r) % 4)))

pub IsBlock-shift_rows : (s : List ℕ) → IsBlock s → IsBlock (shift_rows s)
unfolding shift_rows
IsBlock-shift_rows s block = IsBlock-state (λ r c. cell s r ((c + r) % 4)) (λ r c _ _. block.octets (r + 4 * ((c + r) % 4)))

pub shift_injective : (a b : List ℕ) → IsBlock a → IsBlock b → shift_rows a ≡ shift_rows b → a ≡ b
unfolding shift_rows
shift_injective a b block_a block_b same =
    ext_get_or 0 a b (block_a.size ∙ sym block_b.size)
    (λ k inside.
    let in_block : k < 16 = omega (arith, block_a.size) in
    let place : ℕ = k % 4 + 4 * ((k / 4 + 3 * (k % 4)) % 4) in
    let here : place % 4 + 4 * ((place / 4 + place % 4) % 4) ≡ k = omega arith in
    let of_a = rw here at (state_at (λ r c. cell a r ((c + r) % 4)) place (omega arith)) in
    let of_b = rw here at (state_at (λ r c. cell b r ((c + r) % 4)) place (omega arith)) in
    sym of_a ∙ ap (λ (s : List ℕ). get_or s place 0) same ∙ of_b)

-- ---- MixColumns

-- what m makes of what n made of a block, where m undoes n
undone_state : (m n : List (List ℕ)) (s : List ℕ) → Undoes m n → IsBlock s → s ≡ state_of (row_times_column m (state_of (row_times_column n s)))
undone_state m n s undoes block =
    state_cells (row_times_column m (state_of (row_times_column n s))) s block.size
    (λ r c in_rows in_columns.
    sym (total_same (λ j. product (entry m r j) (cell (state_of (row_times_column n s)) j c)) (λ j. product (entry m r j) (row_times_column n s j c))
    (λ j below. ap (λ (x : ℕ). product (entry m r j) x) (cell_state (row_times_column n s) j c below in_columns))
    ∙ undone m n (λ k. cell s k c) r undoes (λ k. block.octets (k + 4 * c)) in_rows))

-- MixColumns undoes its inverse
pub mix_undone : (s : List ℕ) → IsBlock s → mix_columns (inverse_mix_columns s) ≡ s
unfolding mix_columns inverse_mix_columns
mix_undone s block = sym (undone_state mix_matrix unmix_matrix s mix_undoes block)

pub mix_injective : (a b : List ℕ) → IsBlock a → IsBlock b → mix_columns a ≡ mix_columns b → a ≡ b
unfolding mix_columns
mix_injective a b block_a block_b same =
    undone_state unmix_matrix mix_matrix a unmix_undoes block_a
    ∙ ap (λ (u : List ℕ). state_of (row_times_column unmix_matrix u)) same
    ∙ sym (undone_state unmix_matrix mix_matrix b unmix_undoes block_b)

-- a row of octets times a column
row_in_range : (a b c d : ℕ) (s : List ℕ) (column : ℕ) → a < 256 → b < 256 → c < 256 → d < 256
    → add (product a (cell s 0 column)) (add (product b (cell s 1 column)) (add (product c (cell s 2 column)) (add (product d (cell s 3 column)) 0))) < 256
row_in_range a b c d s column in_a in_b in_c in_d =
    let at_d = xor_lt 8 (product d (cell s 3 column)) 0 (product_in_range d (cell s 3 column) in_d) (omega arith) in
    let at_c = xor_lt 8 (product c (cell s 2 column)) _ (product_in_range c (cell s 2 column) in_c) at_d in
    let at_b = xor_lt 8 (product b (cell s 1 column)) _ (product_in_range b (cell s 1 column) in_b) at_c in
    xor_lt 8 (product a (cell s 0 column)) _ (product_in_range a (cell s 0 column) in_a) at_b

mixed_in_range : (s : List ℕ) (r column : ℕ) → r < 4 → row_times_column mix_matrix s r column < 256
mixed_in_range s zero column _ = row_in_range 2 3 1 1 s column (omega arith) (omega arith) (omega arith) (omega arith)
mixed_in_range s (suc zero) column _ = row_in_range 1 2 3 1 s column (omega arith) (omega arith) (omega arith) (omega arith)
mixed_in_range s (suc (suc zero)) column _ = row_in_range 1 1 2 3 s column (omega arith) (omega arith) (omega arith) (omega arith)
mixed_in_range s (suc (suc (suc zero))) column _ = row_in_range 3 1 1 2 s column (omega arith) (omega arith) (omega arith) (omega arith)
mixed_in_range s (suc (suc (suc (suc r)))) column h = absurd (omega arith)

pub IsBlock-mix_columns : (s : List ℕ) → IsBlock (mix_columns s)
unfolding mix_columns
IsBlock-mix_columns s = IsBlock-state (row_times_column mix_matrix s) (λ r c in_rows _. mixed_in_range s r c in_rows)

unmixed_in_range : (s : List ℕ) (r column : ℕ) → r < 4 → row_times_column unmix_matrix s r column < 256
unmixed_in_range s zero column _ = row_in_range 14 11 13 9 s column (omega arith) (omega arith) (omega arith) (omega arith)
unmixed_in_range s (suc zero) column _ = row_in_range 9 14 11 13 s column (omega arith) (omega arith) (omega arith) (omega arith)
unmixed_in_range s (suc (suc zero)) column _ = row_in_range 13 9 14 11 s column (omega arith) (omega arith) (omega arith) (omega arith)
unmixed_in_range s (suc (suc (suc zero))) column _ = row_in_range 11 13 9 14 s column (omega arith) (omega arith) (omega arith) (omega arith)
unmixed_in_range s (suc (suc (suc (suc r)))) column h = absurd (omega arith)

pub IsBlock-inverse_mix_columns : (s : List ℕ) → IsBlock (inverse_mix_columns s)
unfolding inverse_mix_columns
IsBlock-inverse_mix_columns s = IsBlock-state (row_times_column unmix_matrix s) (λ r c in_rows _. unmixed_in_range s r c in_rows)

-- ---- AddRoundKey

add_cell : (s w : List ℕ) (r c : ℕ) → r < 4 → c < 4 → cell (add_round_key s w) r c ≡ add (cell s r c) (cell w r c)
unfolding add_round_key
add_cell s w r c in_rows in_columns = cell_state (λ r c. add (cell s r c) (cell w r c)) r c in_rows in_columns

length-add_round_key : (s w : List ℕ) → length (add_round_key s w) ≡ 16
unfolding add_round_key
length-add_round_key s w = refl

-- to add a round key twice is to add nothing
pub add_twice : (s w : List ℕ) → length s ≡ 16 → add_round_key (add_round_key s w) w ≡ s
unfolding add_round_key
add_twice s w size =
    sym (state_cells (λ r c. add (cell (add_round_key s w) r c) (cell w r c)) s size
    (λ r c in_rows in_columns.
    rw (add_cell s w r c in_rows in_columns, xor_assoc (cell s r c) (cell w r c) (cell w r c), xor_self (cell w r c), xor_zero_r (cell s r c)) refl))

pub add_injective : (a b w : List ℕ) → IsBlock a → IsBlock b → add_round_key a w ≡ add_round_key b w → a ≡ b
add_injective a b w block_a block_b same =
    sym (add_twice a w block_a.size) ∙ ap (λ (s : List ℕ). add_round_key s w) same ∙ add_twice b w block_b.size

pub IsBlock-add_round_key : (s w : List ℕ) → AreOctets s → AreOctets w → IsBlock (add_round_key s w)
unfolding add_round_key
IsBlock-add_round_key s w octets_s octets_w =
    IsBlock-state (λ r c. add (cell s r c) (cell w r c))
    (λ r c _ _. xor_lt 8 (cell s r c) (cell w r c) (octets_s (r + 4 * c)) (octets_w (r + 4 * c)))

-- MixColumns of a sum
row_of_sum : (s w : List ℕ) (r c : ℕ) → c < 4 → row_times_column mix_matrix (add_round_key s w) r c ≡ add (row_times_column mix_matrix s r c) (row_times_column mix_matrix w r c)
row_of_sum s w r c in_columns =
    total_same (λ k. product (entry mix_matrix r k) (cell (add_round_key s w) k c)) (λ k. add (product (entry mix_matrix r k) (cell s k c)) (product (entry mix_matrix r k) (cell w k c)))
    (λ k in_rows.
    ap (λ (x : ℕ). product (entry mix_matrix r k) x) (add_cell s w k c in_rows in_columns) ∙ product_add (entry mix_matrix r k) (cell s k c) (cell w k c))
    ∙ total_add (λ k. product (entry mix_matrix r k) (cell s k c)) (λ k. product (entry mix_matrix r k) (cell w k c)) (range_with_len 0 4)

mix_of_sum : (s w : List ℕ) → mix_columns (add_round_key s w) ≡ add_round_key (mix_columns s) (mix_columns w)
unfolding mix_columns
mix_of_sum s w =
    sym (state_cells (row_times_column mix_matrix (add_round_key s w)) (add_round_key (state_of (row_times_column mix_matrix s)) (state_of (row_times_column mix_matrix w))) (length-add_round_key (state_of (row_times_column mix_matrix s)) (state_of (row_times_column mix_matrix w)))
    (λ r c in_rows in_columns.
    add_cell (state_of (row_times_column mix_matrix s)) (state_of (row_times_column mix_matrix w)) r c in_rows in_columns
    ∙ ap (λ (x : ℕ). add x (cell (state_of (row_times_column mix_matrix w)) r c)) (cell_state (row_times_column mix_matrix s) r c in_rows in_columns)
    ∙ ap (λ (x : ℕ). add (row_times_column mix_matrix s r c) x) (cell_state (row_times_column mix_matrix w) r c in_rows in_columns)
    ∙ sym (row_of_sum s w r c in_columns)))

-- so its inverse is taken of a block and of what is added to it apart
pub mix_sum_undone : (s w b : List ℕ) → IsBlock s → IsBlock w → b ≡ add_round_key (inverse_mix_columns s) (inverse_mix_columns w) → mix_columns b ≡ add_round_key s w
mix_sum_undone s w b block_s block_w is =
    ap mix_columns is ∙ mix_of_sum (inverse_mix_columns s) (inverse_mix_columns w)
    ∙ rw (mix_undone s block_s, mix_undone w block_w) refl
