-- A step on the registers, what undoes it, and all the steps.
use Rattle.std.proofs.Common.{◌≡◌, ℕ, zero, suc, ◌+◌, ◌-◌, ◌*◌, ◌%◌, ◌<◌, ◌≤◌, List, ◌++◌, length, map, get_or, take, drop, bit_xor, ⊎_elim, refl, sym, ◌∙◌, ap, arith, append_assoc, length-append, length-drop}
use borrow.Rule.Slice.PartMut.{put_mid}
use Rattle.std.specs.Int.{w64, to_be_bytes}
use Rattle.std.specs.Int.Bits.{xor_self, xor_zero_r, xor_assoc}
use Rattle.std.specs.List.{range_with_len}
use Rattle.std.proofs.lemmas.Bool.{cases_lt}
use Rattle.std.proofs.lemmas.Nat.{mod-mul-add, xor_lt}
use Rattle.std.proofs.lemmas.List.{ext_get_or, get_or_append_left, get_or-append_right, get_or-drop, length-take-le, append-nil, drop_all, drop-drop, take_at, drop_at, take-append-drop}
use Rattle.std.proofs.lemmas.List.FromFn.{get_or-map-range_with_len}
use Rattle.perc_aes.specs.Cipher.{IsBlock, IsKey, add_round_key, aes, last_round}
use Rattle.perc_aes.proofs.CipherLaws.{IsBlock-aes, aes_injective}
use Rattle.perc_keywrap.specs.Wrap.{joined, put, numbered, step, round, rounds}
use Rattle.perc_octets.specs.Octets.{AreOctets}
use Rattle.perc_octets.proofs.Octets.{AreOctets-append, AreOctets-take, AreOctets-drop}
use Rattle.perc_keywrap.proofs.Octets.{octets-high_first, part_1, part_2, part_3, part_4, parts}

-- ---- a number added to a block

abbrev pub sum_at : List ℕ → ℕ → ℕ → ℕ
sum_at block t k = bit_xor (get_or block k 0) (get_or (to_be_bytes w64 t) k 0)

abbrev front : List ℕ → ℕ → List ℕ
front block t = map (sum_at block t) (range_with_len 0 8)

numbered_front : (b : List ℕ) (t k : ℕ) → k < 8 → get_or (numbered b t) k 0 ≡ sum_at b t k
unfolding numbered
numbered_front b t k inside =
    get_or_append_left (front b t) (drop 8 b) 0 k inside
    ∙ get_or-map-range_with_len (sum_at b t) 0 8 k k 0 inside (omega arith)

numbered_back : (b : List ℕ) (t k : ℕ) → 8 ≤ k → get_or (numbered b t) k 0 ≡ get_or b k 0
unfolding numbered
numbered_back b t k past =
    let place : 8 + (k - 8) ≡ k = omega arith in
    get_or-append_right (front b t) (drop 8 b) 8 k 0 refl past
    ∙ get_or-drop 8 b (k - 8) 0
    ∙ ap (λ (n : ℕ). get_or b n 0) place

pub length-numbered : (b : List ℕ) (t : ℕ) → length b ≡ 16 → length (numbered b t) ≡ 16
unfolding numbered
length-numbered b t size = omega (arith, length-append (front b t) (drop 8 b), length-drop 8 b)

-- what a loop over the first half makes
pub numbered_filled : (b s : List ℕ) (t : ℕ) → length b ≡ 16 → length s ≡ 16 → ((k : ℕ) → k < 8 → get_or s k 0 ≡ sum_at b t k) → ((k : ℕ) → 8 ≤ k → get_or s k 0 ≡ get_or b k 0) → s ≡ numbered b t
numbered_filled b s t size_b size_s done left =
    ext_get_or 0 s (numbered b t) (size_s ∙ sym (length-numbered b t size_b))
    (λ k _.
    ⊎_elim (λ (inside : k < 8). done k inside ∙ sym (numbered_front b t k inside))
    (λ (past : 8 ≤ k). left k past ∙ sym (numbered_back b t k past))
    (cases_lt k 8))

xor_twice : (a b : ℕ) → bit_xor (bit_xor a b) b ≡ a
xor_twice a b = xor_assoc a b b ∙ ap (λ (x : ℕ). bit_xor a x) (xor_self b) ∙ xor_zero_r a

pub numbered_twice : (b : List ℕ) (t : ℕ) → length b ≡ 16 → numbered (numbered b t) t ≡ b
numbered_twice b t size =
    sym (numbered_filled (numbered b t) b t (length-numbered b t size) size
    (λ k inside.
    sym (ap (λ (x : ℕ). bit_xor x (get_or (to_be_bytes w64 t) k 0)) (numbered_front b t k inside)
    ∙ xor_twice (get_or b k 0) (get_or (to_be_bytes w64 t) k 0)))
    (λ k past. sym (numbered_back b t k past)))

pub IsBlock-numbered : (b : List ℕ) (t : ℕ) → IsBlock b → IsBlock (numbered b t)
IsBlock-numbered b t block = record {
  size = length-numbered b t block.size;
  octets = λ k.
      ⊎_elim (λ (inside : k < 8). rw (numbered_front b t k inside) (xor_lt 8 (get_or b k 0) (get_or (to_be_bytes w64 t) k 0) (block.octets k) (octets-high_first 8 t k)))
      (λ (past : 8 ≤ k). rw (numbered_back b t k past) (block.octets k))
      (cases_lt k 8);
}

-- ---- two registers out of all, and back

-- These are the first register and n more.
pub record AreRegisters (s : List ℕ) (n : ℕ) : Type 0 where
  pub size : length s ≡ 8 + 8 * n
  pub octets : AreOctets s

pub length-joined : (s : List ℕ) (i : ℕ) → 8 * i + 8 ≤ length s → length (joined s i) ≡ 16
unfolding joined
length-joined s i inside =
    omega (arith, length-append (take 8 s) (take 8 (drop (8 * i) s)), length-take-le 8 s (omega arith), length-take-le 8 (drop (8 * i) s) (omega (arith, length-drop (8 * i) s)))

pub IsBlock-joined : (s : List ℕ) (i : ℕ) → AreOctets s → 8 * i + 8 ≤ length s → IsBlock (joined s i)
unfolding joined
IsBlock-joined s i octets inside = record {
  size = length-joined s i inside;
  octets = AreOctets-append (take 8 s) (take 8 (drop (8 * i) s)) (AreOctets-take 8 s octets) (AreOctets-take 8 (drop (8 * i) s) (AreOctets-drop (8 * i) s octets));
}

-- the lengths of the parts of which put makes the registers
middle_size : (s : List ℕ) (i : ℕ) → 1 ≤ i → 8 * i + 8 ≤ length s → length (take (8 * i - 8) (drop 8 s)) ≡ 8 * i - 8
middle_size s i some inside = length-take-le (8 * i - 8) (drop 8 s) (omega (arith, length-drop 8 s))

pub length-put : (s : List ℕ) (i : ℕ) (b : List ℕ) → 1 ≤ i → 8 * i + 8 ≤ length s → length b ≡ 16 → length (put s i b) ≡ length s
unfolding put
length-put s i b some inside size =
    let p = take (8 * i - 8) (drop 8 s) in
    let q = drop (8 * i + 8) s in
    let parts : length (take 8 b ++ p ++ drop 8 b ++ q) ≡ length (take 8 b) + length p + length (drop 8 b) + length q =
    omega (arith, length-append (take 8 b ++ p ++ drop 8 b) q, length-append (take 8 b ++ p) (drop 8 b), length-append (take 8 b) p) in
    omega (arith, parts, length-take-le 8 b (omega arith), length-drop 8 b, middle_size s i some inside, length-drop (8 * i + 8) s)

pub octets-put : (s : List ℕ) (i : ℕ) (b : List ℕ) → AreOctets s → AreOctets b → AreOctets (put s i b)
unfolding put
octets-put s i b of_s of_b =
    let p = take (8 * i - 8) (drop 8 s) in
    AreOctets-append (take 8 b ++ p ++ drop 8 b) (drop (8 * i + 8) s)
    (AreOctets-append (take 8 b ++ p) (drop 8 b) (AreOctets-append (take 8 b) p (AreOctets-take 8 b of_b) (AreOctets-take (8 * i - 8) (drop 8 s) (AreOctets-drop 8 s of_s))) (AreOctets-drop 8 b of_b))
    (AreOctets-drop (8 * i + 8) s of_s)

pub joined-put : (s : List ℕ) (i : ℕ) (b : List ℕ) → 1 ≤ i → 8 * i + 8 ≤ length s → length b ≡ 16 → joined (put s i b) i ≡ b
unfolding joined put
joined-put s i b some inside size =
    let p = take (8 * i - 8) (drop 8 s) in
    let q = drop (8 * i + 8) s in
    let first : length (take 8 b) ≡ 8 = length-take-le 8 b (omega arith) in
    let half : length (drop 8 b) ≡ 8 = omega (arith, length-drop 8 b) in
    ap (λ (x : List ℕ). x ++ take 8 (drop (8 * i) (take 8 b ++ p ++ drop 8 b ++ q))) (part_1 (take 8 b) p (drop 8 b) q first)
    ∙ ap (λ (x : List ℕ). take 8 b ++ x) (part_3 (take 8 b) p (drop 8 b) q i some first (middle_size s i some inside) half)
    ∙ take-append-drop 8 b

pub put-joined : (s : List ℕ) (i : ℕ) (b : List ℕ) → 1 ≤ i → 8 * i + 8 ≤ length s → length b ≡ 16 → put (put s i b) i (joined s i) ≡ s
unfolding joined put
put-joined s i b some inside size =
    let p = take (8 * i - 8) (drop 8 s) in
    let q = drop (8 * i + 8) s in
    let r = take 8 (drop (8 * i) s) in
    let now = take 8 b ++ p ++ drop 8 b ++ q in
    let first : length (take 8 b) ≡ 8 = length-take-le 8 b (omega arith) in
    let half : length (drop 8 b) ≡ 8 = omega (arith, length-drop 8 b) in
    let first_s : length (take 8 s) ≡ 8 = length-take-le 8 s (omega arith) in
    let size_p : length p ≡ 8 * i - 8 = middle_size s i some inside in
    ap (λ (x : List ℕ). x ++ take (8 * i - 8) (drop 8 now) ++ drop 8 (take 8 s ++ r) ++ drop (8 * i + 8) now) (take_at (take 8 s) r 8 first_s)
    ∙ ap (λ (x : List ℕ). take 8 s ++ x ++ drop 8 (take 8 s ++ r) ++ drop (8 * i + 8) now) (part_2 (take 8 b) p (drop 8 b) q i first size_p)
    ∙ ap (λ (x : List ℕ). take 8 s ++ p ++ x ++ drop (8 * i + 8) now) (drop_at (take 8 s) r 8 first_s)
    ∙ ap (λ (x : List ℕ). take 8 s ++ p ++ r ++ x) (part_4 (take 8 b) p (drop 8 b) q i some first size_p half)
    ∙ parts s i some

-- what the body that joins two registers makes: z is what stood behind the first
pub joined_made : (s x y z : List ℕ) (i w : ℕ) → 8 * i + 8 ≤ length s → length z ≡ 8 → w ≡ 8 → x ≡ take 8 s → y ≡ take w (drop (8 * i) s) → put_mid 8 8 (x ++ z) y ≡ joined s i
unfolding joined
joined_made s x y z i w inside size width first second =
    let size_x : length x ≡ 8 = ap length first ∙ length-take-le 8 s (omega arith) in
    ap (λ (v : List ℕ). v ++ (y ++ drop 8 (drop 8 (x ++ z)))) (take_at x z 8 size_x)
    ∙ ap (λ (v : List ℕ). x ++ (y ++ drop 8 v)) (drop_at x z 8 size_x)
    ∙ ap (λ (v : List ℕ). x ++ (y ++ v)) (drop_all 8 z (omega arith))
    ∙ ap (λ (v : List ℕ). x ++ v) (append-nil y ∙ second ∙ ap (λ (n : ℕ). take n (drop (8 * i) s)) width)
    ∙ ap (λ (v : List ℕ). v ++ take 8 (drop (8 * i) s)) first

-- what lies behind the first register
rest_parts : (s : List ℕ) (i : ℕ) → 1 ≤ i → 8 * i + 8 ≤ length s → drop 8 s ≡ take (8 * i - 8) (drop 8 s) ++ (take 8 (drop (8 * i) s) ++ drop (8 * i + 8) s)
rest_parts s i some inside =
    let p = take (8 * i - 8) (drop 8 s) in
    let r = take 8 (drop (8 * i) s) in
    let q = drop (8 * i + 8) s in
    ap (λ (v : List ℕ). drop 8 v) (sym (parts s i some) ∙ append_assoc (take 8 s ++ p) r q ∙ append_assoc (take 8 s) p (r ++ q))
    ∙ drop_at (take 8 s) (p ++ (r ++ q)) 8 (length-take-le 8 s (omega arith))

-- what the body that puts a block makes
pub put_made : (s b x y : List ℕ) (i w : ℕ) → 1 ≤ i → 8 * i + 8 ≤ length s → length b ≡ 16 → w ≡ 8 → x ≡ take 8 b → y ≡ drop 8 b → put_mid (8 * i) w (x ++ drop 8 s) y ≡ put s i b
unfolding put
put_made s b x y i w some inside size width first second =
    let p = take (8 * i - 8) (drop 8 s) in
    let r = take 8 (drop (8 * i) s) in
    let q = drop (8 * i + 8) s in
    let size_x : length x ≡ 8 = ap length first ∙ length-take-le 8 b (omega arith) in
    let size_p : length p ≡ 8 * i - 8 = middle_size s i some inside in
    let size_r : length r ≡ 8 = length-take-le 8 (drop (8 * i) s) (omega (arith, length-drop (8 * i) s)) in
    let end : 8 * i + w ≡ 8 * i + 8 = omega arith in
    let all : x ++ drop 8 s ≡ x ++ p ++ (r ++ q) =
    ap (λ (v : List ℕ). x ++ v) (rest_parts s i some inside) ∙ sym (append_assoc x p (r ++ q)) in
    ap (λ (v : List ℕ). take (8 * i) v ++ (y ++ drop w (drop (8 * i) (x ++ drop 8 s)))) all
    ∙ ap (λ (v : List ℕ). v ++ (y ++ drop w (drop (8 * i) (x ++ drop 8 s)))) (take_at (x ++ p) (r ++ q) (8 * i) (omega (arith, length-append x p)))
    ∙ ap (λ (v : List ℕ). x ++ p ++ (y ++ v))
    (drop-drop w (8 * i) (x ++ drop 8 s) ∙ ap (λ (n : ℕ). drop n (x ++ drop 8 s)) end
    ∙ ap (λ (v : List ℕ). drop (8 * i + 8) v) (all ∙ sym (append_assoc (x ++ p) r q))
    ∙ part_4 x p r q i some size_x size_p size_r)
    ∙ sym (append_assoc (x ++ p) y q)
    ∙ ap (λ (v : List ℕ). v ++ p ++ y ++ q) first
    ∙ ap (λ (v : List ℕ). take 8 b ++ p ++ v ++ q) second

-- ---- a step

-- what the cipher gives has 16 octets, whatever it is put to
pub length-aes : (key b : List ℕ) → length (aes key b) ≡ 16
unfolding aes last_round add_round_key
length-aes key b = refl

-- what the body of a step back makes
pub step_back : (key s b : List ℕ) (i t : ℕ) → 1 ≤ i → 8 * i + 8 ≤ length s → length b ≡ 16 → aes key b ≡ numbered (joined s i) t → step key (put s i b) i t ≡ s
unfolding step
step_back key s b i t some inside size was =
    ap (λ (x : List ℕ). put (put s i b) i (numbered (aes key x) t)) (joined-put s i b some inside size)
    ∙ ap (λ (x : List ℕ). put (put s i b) i (numbered x t)) was
    ∙ ap (λ (x : List ℕ). put (put s i b) i x) (numbered_twice (joined s i) t (length-joined s i inside))
    ∙ put-joined s i b some inside size

pub AreRegisters-step : (key s : List ℕ) (n i t : ℕ) → IsKey key → AreRegisters s n → 1 ≤ i → i ≤ n → AreRegisters (step key s i t) n
unfolding step
AreRegisters-step key s n i t is are some inside =
    let within : 8 * i + 8 ≤ length s = omega (arith, are.size) in
    let block = IsBlock-numbered (aes key (joined s i)) t (IsBlock-aes key (joined s i) is (IsBlock-joined s i are.octets within)) in
    record {
      size = length-put s i (numbered (aes key (joined s i)) t) some within block.size ∙ are.size;
      octets = octets-put s i (numbered (aes key (joined s i)) t) are.octets block.octets;
    }

-- a step keeps the length, whatever the key
pub length-step : (key s : List ℕ) (n i t : ℕ) → length s ≡ 8 + 8 * n → 1 ≤ i → i ≤ n → length (step key s i t) ≡ length s
unfolding step
length-step key s n i t size some inside =
    length-put s i (numbered (aes key (joined s i)) t) some (omega arith) (length-numbered (aes key (joined s i)) t (length-aes key (joined s i)))

-- no two lists of registers become the same in a step
pub step_injective : (key s u : List ℕ) (n i t : ℕ) → IsKey key → AreRegisters s n → AreRegisters u n → 1 ≤ i → i ≤ n → step key s i t ≡ step key u i t → s ≡ u
unfolding step
step_injective key s u n i t is of_s of_u some inside same =
    let in_s : 8 * i + 8 ≤ length s = omega (arith, of_s.size) in
    let in_u : 8 * i + 8 ≤ length u = omega (arith, of_u.size) in
    let joined_s = IsBlock-joined s i of_s.octets in_s in
    let joined_u = IsBlock-joined u i of_u.octets in_u in
    let aes_s = IsBlock-aes key (joined s i) is joined_s in
    let aes_u = IsBlock-aes key (joined u i) is joined_u in
    let block_s = numbered (aes key (joined s i)) t in
    let block_u = numbered (aes key (joined u i)) t in
    let size_s : length block_s ≡ 16 = length-numbered (aes key (joined s i)) t aes_s.size in
    let size_u : length block_u ≡ 16 = length-numbered (aes key (joined u i)) t aes_u.size in
    let blocks : block_s ≡ block_u =
    sym (joined-put s i block_s some in_s size_s) ∙ ap (λ (x : List ℕ). joined x i) same ∙ joined-put u i block_u some in_u size_u in
    let ciphers : aes key (joined s i) ≡ aes key (joined u i) =
    sym (numbered_twice (aes key (joined s i)) t aes_s.size) ∙ ap (λ (x : List ℕ). numbered x t) blocks ∙ numbered_twice (aes key (joined u i)) t aes_u.size in
    let pairs : joined s i ≡ joined u i = aes_injective key (joined s i) (joined u i) is joined_s joined_u ciphers in
    sym (put-joined s i block_s some in_s size_s)
    ∙ ap (λ (x : List ℕ). put x i (joined s i)) same
    ∙ ap (λ (x : List ℕ). put (put u i block_u) i x) pairs
    ∙ put-joined u i block_u some in_u size_u

-- ---- all the steps, round after round

-- the registers after the steps from 1 to t
unfoldable pub after_steps : List ℕ → ℕ → List ℕ → ℕ → List ℕ
after_steps key n registers zero = registers
after_steps key n registers (suc t) = step key (after_steps key n registers t) (t % n + 1) (suc t)

pub steps_none : (key s : List ℕ) (n : ℕ) → after_steps key n s 0 ≡ s
unfolding after_steps
steps_none key s n = refl

round_flat : (key s : List ℕ) (n j i : ℕ) → i ≤ n → round key n j (after_steps key n s (n * j)) i ≡ after_steps key n s (n * j + i)
unfolding round after_steps
round_flat key s n j zero within =
    let none : n * j ≡ n * j + 0 = omega arith in
    ap (λ (t : ℕ). after_steps key n s t) none
round_flat key s n j (suc i) within =
    let small : i < n = omega arith in
    let turned : n * j + i ≡ j * n + i = omega arith in
    let rest : (n * j + i) % n ≡ i = ap (λ (t : ℕ). t % n) turned ∙ mod-mul-add j n i small in
    let place : suc i ≡ (n * j + i) % n + 1 = omega (arith, rest) in
    let next : n * j + suc i ≡ suc (n * j + i) = omega arith in
    ap (λ (x : List ℕ). step key x (suc i) (n * j + suc i)) (round_flat key s n j i (omega arith))
    ∙ ap (λ (k : ℕ). step key (after_steps key n s (n * j + i)) k (n * j + suc i)) place
    ∙ ap (λ (t : ℕ). step key (after_steps key n s (n * j + i)) ((n * j + i) % n + 1) t) next
    ∙ ap (λ (t : ℕ). after_steps key n s t) (sym next)

-- the rounds are the steps one after the other
pub rounds_flat : (key s : List ℕ) (n j : ℕ) → rounds key n s j ≡ after_steps key n s (n * j)
unfolding rounds
rounds_flat key s n zero =
    let none : 0 ≡ n * 0 = omega arith in
    sym (steps_none key s n) ∙ ap (λ (t : ℕ). after_steps key n s t) none
rounds_flat key s n (suc j) =
    let next : n * j + n ≡ n * suc j = omega arith in
    ap (λ (x : List ℕ). round key n j x n) (rounds_flat key s n j)
    ∙ round_flat key s n j n (omega arith)
    ∙ ap (λ (t : ℕ). after_steps key n s t) next

pub steps_more : (key s : List ℕ) (n t : ℕ) → after_steps key n s (t + 1) ≡ step key (after_steps key n s t) (t % n + 1) (t + 1)
unfolding after_steps
steps_more key s n t = let next : t + 1 ≡ suc t = omega arith in rw next refl

pub AreRegisters-steps : (key s : List ℕ) (n t : ℕ) → IsKey key → 1 ≤ n → AreRegisters s n → AreRegisters (after_steps key n s t) n
unfolding after_steps
AreRegisters-steps key s n zero is some are = are
AreRegisters-steps key s n (suc t) is some are =
    AreRegisters-step key (after_steps key n s t) n (t % n + 1) (suc t) is (AreRegisters-steps key s n t is some are) (omega arith) (omega arith)

pub length-steps : (key s : List ℕ) (n t : ℕ) → 1 ≤ n → length s ≡ 8 + 8 * n → length (after_steps key n s t) ≡ length s
unfolding after_steps
length-steps key s n zero some size = refl
length-steps key s n (suc t) some size =
    let before = length-steps key s n t some size in
    length-step key (after_steps key n s t) n (t % n + 1) (suc t) (before ∙ size) (omega arith) (omega arith) ∙ before

pub steps_injective : (key s u : List ℕ) (n t : ℕ) → IsKey key → 1 ≤ n → AreRegisters s n → AreRegisters u n → after_steps key n s t ≡ after_steps key n u t → s ≡ u
unfolding after_steps
steps_injective key s u n zero is some of_s of_u same = same
steps_injective key s u n (suc t) is some of_s of_u same =
    let are_s = AreRegisters-steps key s n t is some of_s in
    let are_u = AreRegisters-steps key u n t is some of_u in
    steps_injective key s u n t is some of_s of_u
    (step_injective key (after_steps key n s t) (after_steps key n u t) n (t % n + 1) (suc t) is are_s are_u (omega arith) (omega arith) same)

-- Where t steps lead to s, m steps lead to the end.
pub record LeadsTo (key s end : List ℕ) (n t m : ℕ) : Type 0 where
  pub on : (x : List ℕ) → after_steps key n x t ≡ s → after_steps key n x m ≡ end

pub leads_last : (key s : List ℕ) (n m : ℕ) → LeadsTo key s s n m m
leads_last key s n m = record { on = λ x same. same }

pub leads_back : (key s u end : List ℕ) (n t m : ℕ) → LeadsTo key s end n (t + 1) m → step key u (t % n + 1) (t + 1) ≡ s → LeadsTo key u end n t m
leads_back key s u end n t m leads back = record {
  on = λ x same. leads.on x (steps_more key x n t ∙ ap (λ (y : List ℕ). step key y (t % n + 1) (t + 1)) same ∙ back);
}

pub leads_first : (key s end : List ℕ) (n m : ℕ) → LeadsTo key s end n 0 m → after_steps key n s m ≡ end
leads_first key s end n m leads = leads.on s (steps_none key s n)
