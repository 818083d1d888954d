-- The rounds, from one block to the next, and the keys that they add.
use Rattle.std.proofs.Common.{◌≡◌, ℕ, zero, suc, ◌+◌, ◌-◌, ◌*◌, ◌/◌, ◌%◌, ◌<◌, ◌≤◌, if◌then◌else◌, nat_lt, nat_eq, ◌&&◌, Bool, true, false, List, [], ◌∷◌, ◌++◌, length, length-drop, take, drop, get_or, ⊎_elim, refl, sym, ◌∙◌, ap, arith}
use Rattle.std.proofs.lemmas.Bool.{cases_lt}
use Rattle.std.proofs.lemmas.List.{ext_get_or, get_or-take, get_or-drop, get_or_past, length-take, get_or_append_left, get_or-append_right}
use Rattle.std.proofs.lemmas.Nat.{xor_lt}
use Rattle.perc_aes.specs.Field.{add, times_x, power_of_x}
use Rattle.perc_aes.specs.Cipher.{IsBlock, IsKey, add_round_key, add_words, aes, key_words, last_round, mix_columns, next_word, rotate_word, round_constant}
use Rattle.perc_aes.specs.Cipher.{round_key, rounds, schedule, schedule_core, shift_rows, state_after, sub_bytes, sub_octet, sub_word, word_at}
use Rattle.perc_aes.specs.Inverse.{inverse_mix_columns, inverse_shift_rows, inverse_sub_bytes}
use Rattle.perc_aes.specs.KeySchedule.{IsSchedule}
use Rattle.perc_octets.specs.Octets.{AreOctets}
use Rattle.perc_aes.specs.Words.{octets_of, octets_of_word, octets_of_words, state_at}
use Rattle.perc_aes.specs.declared.state.State.{State}
use Rattle.perc_aes.proofs.Octets.{below_256}
use Rattle.perc_aes.proofs.SBox.{sub_octet_in_range}
use Rattle.perc_aes.proofs.StateLaws.{AreOctets-word}
use Rattle.perc_aes.proofs.Words.{key_of_words, key_size, length-words, words_at}
use Rattle.perc_aes.proofs.Blocks.{IsBlock-sub_bytes, IsBlock-shift_rows, IsBlock-mix_columns, IsBlock-add_round_key, IsBlock-inverse_sub_bytes, IsBlock-inverse_shift_rows}
use Rattle.perc_aes.proofs.Blocks.{IsBlock-inverse_mix_columns, sub_injective, shift_injective, mix_injective, add_injective, sub_undone, shift_undone, mix_undone, add_twice}

-- ---- lists of octets

AreOctets-four : (a b c d : ℕ) → a < 256 → b < 256 → c < 256 → d < 256 → AreOctets (a ∷ b ∷ c ∷ d ∷ [])
AreOctets-four a b c d in_a in_b in_c in_d zero = in_a
AreOctets-four a b c d in_a in_b in_c in_d (suc zero) = in_b
AreOctets-four a b c d in_a in_b in_c in_d (suc (suc zero)) = in_c
AreOctets-four a b c d in_a in_b in_c in_d (suc (suc (suc zero))) = in_d
AreOctets-four a b c d in_a in_b in_c in_d (suc (suc (suc (suc k)))) = omega arith

AreOctets-take : (n : ℕ) (xs : List ℕ) → AreOctets xs → AreOctets (take n xs)
AreOctets-take n xs octets = λ k.
    ⊎_elim (λ (inside : k < n). rw (get_or-take n xs k 0 inside) (octets k))
    (λ (past : n ≤ k). rw (get_or_past (take n xs) k 0 (omega (arith, length-take n xs))) (omega arith))
    (cases_lt k n)

AreOctets-drop : (n : ℕ) (xs : List ℕ) → AreOctets xs → AreOctets (drop n xs)
AreOctets-drop n xs octets = λ k. rw (get_or-drop n xs k 0) (octets (n + k))

AreOctets-append : (xs ys : List ℕ) → AreOctets xs → AreOctets ys → AreOctets (xs ++ ys)
AreOctets-append xs ys octets_xs octets_ys = λ k.
    ⊎_elim (λ (inside : k < length xs). rw (get_or_append_left xs ys 0 k inside) (octets_xs k))
    (λ (past : length xs ≤ k). rw (get_or-append_right xs ys (length xs) k 0 refl past) (octets_ys (k - length xs)))
    (cases_lt k (length xs))

AreOctets-either : (test : Bool) (xs ys : List ℕ) → AreOctets xs → AreOctets ys → AreOctets (if test then xs else ys)
AreOctets-either true xs ys octets_xs octets_ys = octets_xs
AreOctets-either false xs ys octets_xs octets_ys = octets_ys

-- ---- words

AreOctets-word_at : (xs : List ℕ) (i : ℕ) → AreOctets xs → AreOctets (word_at xs i)
AreOctets-word_at xs i octets =
    AreOctets-four (get_or xs (4 * i + 0) 0) (get_or xs (4 * i + 1) 0) (get_or xs (4 * i + 2) 0) (get_or xs (4 * i + 3) 0)
    (octets (4 * i + 0)) (octets (4 * i + 1)) (octets (4 * i + 2)) (octets (4 * i + 3))

AreOctets-add_words : (v w : List ℕ) → AreOctets v → AreOctets w → AreOctets (add_words v w)
AreOctets-add_words v w octets_v octets_w =
    let sum : (k : ℕ) → add (get_or v k 0) (get_or w k 0) < 256 = λ k. xor_lt 8 (get_or v k 0) (get_or w k 0) (octets_v k) (octets_w k) in
    AreOctets-four (add (get_or v 0 0) (get_or w 0 0)) (add (get_or v 1 0) (get_or w 1 0)) (add (get_or v 2 0) (get_or w 2 0)) (add (get_or v 3 0) (get_or w 3 0))
    (sum 0) (sum 1) (sum 2) (sum 3)

AreOctets-sub_word : (w : List ℕ) → AreOctets w → AreOctets (sub_word w)
AreOctets-sub_word w octets =
    let image : (k : ℕ) → sub_octet (get_or w k 0) < 256 = λ k. sub_octet_in_range (get_or w k 0) (octets k) in
    AreOctets-four (sub_octet (get_or w 0 0)) (sub_octet (get_or w 1 0)) (sub_octet (get_or w 2 0)) (sub_octet (get_or w 3 0))
    (image 0) (image 1) (image 2) (image 3)

AreOctets-rotate_word : (w : List ℕ) → AreOctets w → AreOctets (rotate_word w)
AreOctets-rotate_word w octets =
    AreOctets-four (get_or w 1 0) (get_or w 2 0) (get_or w 3 0) (get_or w 0 0) (octets 1) (octets 2) (octets 3) (octets 0)

power_of_x_in_range : (i : ℕ) → power_of_x i < 256
unfolding power_of_x
power_of_x_in_range zero = omega arith
power_of_x_in_range (suc i) = below_256 times_x refl (power_of_x i) (power_of_x_in_range i)

AreOctets-round_constant : (j : ℕ) → AreOctets (round_constant j)
AreOctets-round_constant j =
    AreOctets-four (power_of_x (j - 1)) 0 0 0 (power_of_x_in_range (j - 1)) (omega arith) (omega arith) (omega arith)

AreOctets-schedule_core : (nk i : ℕ) (w : List ℕ) → AreOctets w → AreOctets (schedule_core nk i w)
unfolding schedule_core
AreOctets-schedule_core nk i w octets =
    AreOctets-either (nat_eq (i % nk) 0) (add_words (sub_word (rotate_word w)) (round_constant (i / nk))) (if nat_eq nk 8 && nat_eq (i % 8) 4 then sub_word w else w)
    (AreOctets-add_words (sub_word (rotate_word w)) (round_constant (i / nk)) (AreOctets-sub_word (rotate_word w) (AreOctets-rotate_word w octets)) (AreOctets-round_constant (i / nk)))
    (AreOctets-either (nat_eq nk 8 && nat_eq (i % 8) 4) (sub_word w) w (AreOctets-sub_word w octets) octets)

AreOctets-next_word : (key words : List ℕ) (i : ℕ) → AreOctets key → AreOctets words → AreOctets (next_word key words i)
unfolding next_word
AreOctets-next_word key words i octets_key octets =
    AreOctets-either (nat_lt i (key_words key)) (word_at key i) (add_words (word_at words (i - key_words key)) (schedule_core (key_words key) i (word_at words (i - 1))))
    (AreOctets-word_at key i octets_key)
    (AreOctets-add_words (word_at words (i - key_words key)) (schedule_core (key_words key) i (word_at words (i - 1))) (AreOctets-word_at words (i - key_words key) octets)
    (AreOctets-schedule_core (key_words key) i (word_at words (i - 1)) (AreOctets-word_at words (i - 1) octets)))

AreOctets-schedule : (key : List ℕ) (n : ℕ) → AreOctets key → AreOctets (schedule key n)
unfolding schedule
AreOctets-schedule key zero octets = λ k. omega arith
AreOctets-schedule key (suc n) octets =
    AreOctets-append (schedule key n) (next_word key (schedule key n) n) (AreOctets-schedule key n octets)
    (AreOctets-next_word key (schedule key n) n octets (AreOctets-schedule key n octets))

pub AreOctets-round_key : (key : List ℕ) (r : ℕ) → AreOctets key → AreOctets (round_key key r)
unfolding round_key
AreOctets-round_key key r octets =
    AreOctets-take 16 (drop (16 * r) (schedule key (4 * (rounds key + 1))))
    (AreOctets-drop (16 * r) (schedule key (4 * (rounds key + 1))) (AreOctets-schedule key (4 * (rounds key + 1)) octets))

-- ---- what is kept of a key

-- The octets of words are octets.
AreOctets-words : (ws : List ℕ) → AreOctets (octets_of_words ws)
unfolding octets_of_words
AreOctets-words [] = λ k. omega arith
AreOctets-words (w ∷ ws) = AreOctets-append (octets_of_word w) (octets_of_words ws) (AreOctets-word w) (AreOctets-words ws)

pub IsBlock-octets_of : (s : State) → IsBlock (octets_of s)
unfolding octets_of
IsBlock-octets_of s =
    record { size = length-words (s.a ∷ s.b ∷ s.c ∷ s.d ∷ []); octets = AreOctets-words (s.a ∷ s.b ∷ s.c ∷ s.d ∷ []) }

-- the key that a schedule begins with
pub key_of : (words : List ℕ) (nk : ℕ) → IsSchedule words nk → length words ≡ 60 → IsKey (octets_of_words (take nk words))
key_of words nk is size =
    let facts = key_size (4 * nk) is.size in
    let key_is : length (octets_of_words (take nk words)) ≡ 4 * nk = omega (arith, length-words (take nk words), length-take nk words) in
    record { size = rw key_is is.size; octets = AreOctets-words (take nk words) }

-- the four words from place n on
four_at : (words : List ℕ) (n j : ℕ) → j < 4 → get_or (get_or words n 0 ∷ get_or words (n + 1) 0 ∷ get_or words (n + 2) 0 ∷ get_or words (n + 3) 0 ∷ []) j 0 ≡ get_or words (n + j) 0
four_at words n zero within = ap (λ (i : ℕ). get_or words i 0) (omega arith)
four_at words n (suc zero) within = refl
four_at words n (suc (suc zero)) within = refl
four_at words n (suc (suc (suc zero))) within = refl
four_at words n (suc (suc (suc (suc j)))) within = absurd (omega arith)

-- the octets of the four words from place n on
abbrev four_octets : List ℕ → ℕ → List ℕ
four_octets words n = octets_of_words (get_or words n 0 ∷ get_or words (n + 1) 0 ∷ get_or words (n + 2) 0 ∷ get_or words (n + 3) 0 ∷ [])

-- one of them, within the octets of all
four_octets_at : (words : List ℕ) (r k : ℕ) → 4 * r + 4 ≤ length words → k < 16 → get_or (four_octets words (4 * r)) k 0 ≡ get_or (octets_of_words words) (16 * r + k) 0
four_octets_at words r k fits within =
    let here : 4 * (k / 4) + k % 4 ≡ k = omega arith in
    let there : 4 * (4 * r + k / 4) + k % 4 ≡ 16 * r + k = omega arith in
    rw here at (words_at (get_or words (4 * r) 0 ∷ get_or words (4 * r + 1) 0 ∷ get_or words (4 * r + 2) 0 ∷ get_or words (4 * r + 3) 0 ∷ []) (k / 4) (k % 4) (omega arith) (omega arith))
    ∙ ap (λ (w : ℕ). get_or (octets_of_word w) (k % 4) 0) (four_at words (4 * r) (k / 4) (omega arith))
    ∙ rw there at (sym (words_at words (4 * r + k / 4) (k % 4) (omega arith) (omega arith)))

-- they are 16 octets of all
four_octets_is : (words : List ℕ) (r : ℕ) → 4 * r + 4 ≤ length words → four_octets words (4 * r) ≡ take 16 (drop (16 * r) (octets_of_words words))
four_octets_is words r fits =
    let of_four : length (four_octets words (4 * r)) ≡ 16 = length-words (get_or words (4 * r) 0 ∷ get_or words (4 * r + 1) 0 ∷ get_or words (4 * r + 2) 0 ∷ get_or words (4 * r + 3) 0 ∷ []) in
    let of_all : length (take 16 (drop (16 * r) (octets_of_words words))) ≡ 16 = omega (arith, length-take 16 (drop (16 * r) (octets_of_words words)), length-drop (16 * r) (octets_of_words words), length-words words) in
    ext_get_or 0 (four_octets words (4 * r)) (take 16 (drop (16 * r) (octets_of_words words))) (of_four ∙ sym of_all)
    (λ k inside.
    four_octets_at words r k fits (omega (arith, of_four))
    ∙ sym (get_or-take 16 (drop (16 * r) (octets_of_words words)) k 0 (omega (arith, of_four)) ∙ get_or-drop (16 * r) (octets_of_words words) k 0))

-- the same of the first of them
four_octets-take : (n : ℕ) (words : List ℕ) (i : ℕ) → i + 4 ≤ n → four_octets (take n words) i ≡ four_octets words i
four_octets-take n words i fits =
    rw (get_or-take n words i 0 (omega arith), get_or-take n words (i + 1) 0 (omega arith), get_or-take n words (i + 2) 0 (omega arith), get_or-take n words (i + 3) 0 (omega arith))
    refl

-- its words are within the schedule
pub round_key_fits : (words : List ℕ) (nk r : ℕ) → IsSchedule words nk → length words ≡ 60 → r ≤ rounds (octets_of_words (take nk words)) → 4 * r + 4 ≤ 60
round_key_fits words nk r is size in_rounds =
    let facts = key_size (4 * nk) is.size in
    omega (arith, key_of_words words nk is.size size)

-- a round key, as the words of a schedule have it
pub round_key_is : (words : List ℕ) (nk r : ℕ) → IsSchedule words nk → length words ≡ 60 → r ≤ rounds (octets_of_words (take nk words))
    → octets_of (state_at words (4 * r)) ≡ round_key (octets_of_words (take nk words)) r
unfolding round_key octets_of
round_key_is words nk r is size in_rounds =
    let facts = key_size (4 * nk) is.size in
    let key_is = key_of_words words nk is.size size in
    let count : 4 * (rounds (octets_of_words (take nk words)) + 1) ≡ 4 * nk + 28 = omega arith in
    let kept : length (take (4 * nk + 28) words) ≡ 4 * nk + 28 = omega (arith, length-take (4 * nk + 28) words) in
    sym (four_octets-take (4 * nk + 28) words (4 * r) (omega arith))
    ∙ four_octets_is (take (4 * nk + 28) words) r (omega arith)
    ∙ ap (λ (octets : List ℕ). take 16 (drop (16 * r) octets)) is.words
    ∙ ap (λ (n : ℕ). take 16 (drop (16 * r) (schedule (octets_of_words (take nk words)) n))) (sym count)

-- ---- whole rounds

abbrev pub round : List ℕ → List ℕ → List ℕ
round s w = add_round_key (mix_columns (shift_rows (sub_bytes s))) w

IsBlock-round : (s w : List ℕ) → AreOctets w → IsBlock (round s w)
IsBlock-round s w octets =
    IsBlock-add_round_key (mix_columns (shift_rows (sub_bytes s))) w (IsBlock-mix_columns (shift_rows (sub_bytes s))).octets octets

round_injective : (a b w : List ℕ) → IsBlock a → IsBlock b → round a w ≡ round b w → a ≡ b
round_injective a b w block_a block_b same =
    let sub_a = IsBlock-sub_bytes a block_a in
    let sub_b = IsBlock-sub_bytes b block_b in
    sub_injective a b block_a block_b
    (shift_injective (sub_bytes a) (sub_bytes b) sub_a sub_b
    (mix_injective (shift_rows (sub_bytes a)) (shift_rows (sub_bytes b)) (IsBlock-shift_rows (sub_bytes a) sub_a) (IsBlock-shift_rows (sub_bytes b) sub_b)
    (add_injective (mix_columns (shift_rows (sub_bytes a))) (mix_columns (shift_rows (sub_bytes b))) w (IsBlock-mix_columns (shift_rows (sub_bytes a))) (IsBlock-mix_columns (shift_rows (sub_bytes b))) same)))

-- SubBytes and ShiftRows undo their inverses
pub shift_sub_undone : (s : List ℕ) → IsBlock s → shift_rows (sub_bytes (inverse_sub_bytes (inverse_shift_rows s))) ≡ s
shift_sub_undone s block =
    ap shift_rows (sub_undone (inverse_shift_rows s) (IsBlock-inverse_shift_rows s block)) ∙ shift_undone s block

pub IsBlock-undone : (s : List ℕ) → IsBlock s → IsBlock (inverse_sub_bytes (inverse_shift_rows s))
IsBlock-undone s block = IsBlock-inverse_sub_bytes (inverse_shift_rows s) (IsBlock-inverse_shift_rows s block)

round_onto : (c w : List ℕ) → IsBlock c → AreOctets w → (b : List ℕ) × IsBlock b × (round b w ≡ c)
round_onto c w block octets =
    let s = IsBlock-add_round_key c w block.octets octets in
    let t = IsBlock-inverse_mix_columns (add_round_key c w) in (
      inverse_sub_bytes (inverse_shift_rows (inverse_mix_columns (add_round_key c w))),
      IsBlock-undone (inverse_mix_columns (add_round_key c w)) t,
      ap (λ (u : List ℕ). add_round_key (mix_columns u) w) (shift_sub_undone (inverse_mix_columns (add_round_key c w)) t)
          ∙ ap (λ (u : List ℕ). add_round_key u w) (mix_undone (add_round_key c w) s)
          ∙ add_twice c w block.size,
    )

-- ---- the block after each round

pub IsBlock-state_after : (key b : List ℕ) (n : ℕ) → IsKey key → IsBlock b → IsBlock (state_after key b n)
unfolding state_after
IsBlock-state_after key b zero is block =
    IsBlock-add_round_key b (round_key key 0) block.octets (AreOctets-round_key key 0 is.octets)
IsBlock-state_after key b (suc n) is block =
    IsBlock-round (state_after key b n) (round_key key (suc n)) (AreOctets-round_key key (suc n) is.octets)

pub state_injective : (key a b : List ℕ) (n : ℕ) → IsKey key → IsBlock a → IsBlock b → state_after key a n ≡ state_after key b n → a ≡ b
unfolding state_after
state_injective key a b zero is block_a block_b same = add_injective a b (round_key key 0) block_a block_b same
state_injective key a b (suc n) is block_a block_b same =
    state_injective key a b n is block_a block_b
    (round_injective (state_after key a n) (state_after key b n) (round_key key (suc n)) (IsBlock-state_after key a n is block_a) (IsBlock-state_after key b n is block_b) same)

pub state_onto : (key c : List ℕ) (n : ℕ) → IsKey key → IsBlock c → (b : List ℕ) × IsBlock b × (state_after key b n ≡ c)
unfolding state_after
state_onto key c zero is block =
    (add_round_key c (round_key key 0), IsBlock-add_round_key c (round_key key 0) block.octets (AreOctets-round_key key 0 is.octets), add_twice c (round_key key 0) block.size)
state_onto key c (suc n) is block =
    let s = round_onto c (round_key key (suc n)) block (AreOctets-round_key key (suc n) is.octets) in
    let b = state_onto key s.0 n is s.1 in
    (b.0, b.1, rw b.2 s.2)

-- ---- a round in the code

pub state_first : (key b s : List ℕ) → s ≡ add_round_key b (round_key key 0) → s ≡ state_after key b 0
unfolding state_after
state_first key b s is = is

pub state_next : (key b s : List ℕ) (r : ℕ) → 0 < r → s ≡ state_after key b (r - 1) → round s (round_key key r) ≡ state_after key b (r + 1 - 1)
unfolding state_after
state_next key b s r some is =
    let r_is : suc (r - 1) ≡ r = omega arith in
    let next : r + 1 - 1 ≡ suc (r - 1) = omega arith in
    rw (next, is, r_is) refl

pub aes_last : (key b s : List ℕ) (r : ℕ) → r ≡ rounds key → s ≡ state_after key b (r - 1) → add_round_key (shift_rows (sub_bytes s)) (round_key key r) ≡ aes key b
unfolding aes last_round
aes_last key b s r r_is is = rw (is, r_is) refl

-- ---- a round undone in the code

-- Of this block, which ShiftRows gives in the round after these, the cipher makes c.
abbrev pub LeadsTo : List ℕ → ℕ → List ℕ → List ℕ → Type 0
LeadsTo key r s c = (b : List ℕ) → shift_rows (sub_bytes (state_after key b r)) ≡ s → aes key b ≡ c

pub leads_last : (key c s : List ℕ) (r : ℕ) → length c ≡ 16 → r ≡ rounds key → s ≡ add_round_key c (round_key key r) → LeadsTo key (r - 1) s c
leads_last key c s r size r_is s_is = λ b after.
    sym (aes_last key b (state_after key b (r - 1)) r r_is refl)
    ∙ rw (after, s_is) (add_twice c (round_key key r) size)

pub leads_back : (key c s t w : List ℕ) (r n : ℕ) → IsBlock s → LeadsTo key (suc r) s c
    → mix_columns t ≡ add_round_key (inverse_sub_bytes (inverse_shift_rows s)) w → w ≡ round_key key n → n ≡ suc r → LeadsTo key r t c
unfolding state_after
leads_back key c s t w r n block leads t_is w_is n_is = λ b after.
    leads b (rw (after, t_is, w_is, n_is, add_twice (inverse_sub_bytes (inverse_shift_rows s)) (round_key key (suc r)) (IsBlock-undone s block).size)
    (shift_sub_undone s block))

pub leads_first : (key c s b : List ℕ) → IsBlock s → LeadsTo key 0 s c → b ≡ add_round_key (inverse_sub_bytes (inverse_shift_rows s)) (round_key key 0) → aes key b ≡ c
unfolding state_after
leads_first key c s b block leads is =
    leads b (rw (is, add_twice (inverse_sub_bytes (inverse_shift_rows s)) (round_key key 0) (IsBlock-undone s block).size) (shift_sub_undone s block))
