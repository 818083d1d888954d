-- Laws of the cipher: for every key it is a bijection of the blocks.
use Rattle.std.proofs.Common.{◌≡◌, ℕ, ◌-◌, List, ap, ◌∙◌}
use Rattle.perc_aes.specs.Inverse.{inverse_shift_rows, inverse_sub_bytes}
use Rattle.perc_aes.specs.Cipher.{IsBlock, IsKey, add_round_key, aes, last_round, round_key, rounds, shift_rows, state_after, sub_bytes}
use Rattle.perc_aes.proofs.Blocks.{IsBlock-sub_bytes, IsBlock-shift_rows, IsBlock-add_round_key, sub_injective, shift_injective, add_injective, add_twice}
use Rattle.perc_aes.proofs.Rounds.{AreOctets-round_key, IsBlock-undone, shift_sub_undone, IsBlock-state_after, state_injective, state_onto}

-- The cipher gives blocks.
pub IsBlock-aes : (key b : List ℕ) → IsKey key → IsBlock b → IsBlock (aes key b)
unfolding aes last_round
IsBlock-aes key b is block =
    let s = IsBlock-state_after key b (rounds key - 1) is block in
    let t = IsBlock-shift_rows (sub_bytes (state_after key b (rounds key - 1))) (IsBlock-sub_bytes (state_after key b (rounds key - 1)) s) in
    IsBlock-add_round_key (shift_rows (sub_bytes (state_after key b (rounds key - 1)))) (round_key key (rounds key)) t.octets (AreOctets-round_key key (rounds key) is.octets)

last_injective : (key a b : List ℕ) → IsBlock a → IsBlock b → last_round key a ≡ last_round key b → a ≡ b
unfolding last_round
last_injective key a b block_a block_b same =
    let sub_a = IsBlock-sub_bytes a block_a in
    let sub_b = IsBlock-sub_bytes b block_b in
    sub_injective a b block_a block_b
    (shift_injective (sub_bytes a) (sub_bytes b) sub_a sub_b
    (add_injective (shift_rows (sub_bytes a)) (shift_rows (sub_bytes b)) (round_key key (rounds key)) (IsBlock-shift_rows (sub_bytes a) sub_a) (IsBlock-shift_rows (sub_bytes b) sub_b) same))

last_onto : (key c : List ℕ) → IsKey key → IsBlock c → (b : List ℕ) × IsBlock b × (last_round key b ≡ c)
unfolding last_round
last_onto key c is block =
    let w = round_key key (rounds key) in
    let s = IsBlock-add_round_key c w block.octets (AreOctets-round_key key (rounds key) is.octets) in (
      inverse_sub_bytes (inverse_shift_rows (add_round_key c w)),
      IsBlock-undone (add_round_key c w) s,
      ap (λ (u : List ℕ). add_round_key u w) (shift_sub_undone (add_round_key c w) s) ∙ add_twice c w block.size,
    )

-- No two blocks go to the same block.
pub aes_injective : (key a b : List ℕ) → IsKey key → IsBlock a → IsBlock b → aes key a ≡ aes key b → a ≡ b
unfolding aes
aes_injective key a b is block_a block_b same =
    state_injective key a b (rounds key - 1) is block_a block_b
    (last_injective key (state_after key a (rounds key - 1)) (state_after key b (rounds key - 1)) (IsBlock-state_after key a (rounds key - 1) is block_a) (IsBlock-state_after key b (rounds key - 1) is block_b) same)

-- Some block goes to each block.
pub aes_onto : (key c : List ℕ) → IsKey key → IsBlock c → (b : List ℕ) × IsBlock b × (aes key b ≡ c)
unfolding aes
aes_onto key c is block =
    let s = last_onto key c is block in
    let b = state_onto key s.0 (rounds key - 1) is s.1 in
    (b.0, b.1, rw b.2 s.2)
