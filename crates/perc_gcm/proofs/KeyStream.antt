-- The counter blocks, and the key stream that is added block by block.
use borrow.Rule.Slice.PartMut.{put_mid}
use Rattle.std.proofs.Common.{◌≡◌, ℕ, zero, suc, ◌+◌, ◌-◌, ◌*◌, ◌/◌, ◌%◌, ◌^◌, ◌<◌, ◌≤◌, min, List, [], ◌∷◌, ◌++◌, length, take, drop, get_or, bit_xor, ⊎_elim, refl, ◌∙◌, ap, arith}
use Rattle.std.specs.Int.{w32, from_be_bytes, to_be_bytes}
use Rattle.std.proofs.lemmas.Bool.{cases_lt}
use Rattle.std.proofs.lemmas.List.{get_or-take, get_or-drop, get_or_append_left, get_or-append_right, take_at, drop_at, length-append, length-take, length-drop, append-nil}
use Rattle.std.proofs.lemmas.List.FromFn.{fill_by_all}
use Rattle.std.proofs.lemmas.Nat.{from_be_bytes-to_be_bytes_4}
use Rattle.perc_aes.specs.Cipher.{aes}
use Rattle.perc_gcm.specs.Gcm.{ciphertext, counter_block, inc32, key_stream}

-- adding 1 to a block that ends with a number
inc32_at : (iv : List ℕ) (n : ℕ) → length iv ≡ 12 → n + 1 < 2 ^ 32 → inc32 (iv ++ to_be_bytes w32 n) ≡ iv ++ to_be_bytes w32 (n + 1)
unfolding inc32
inc32_at iv n size fits =
    let front = take_at iv (to_be_bytes w32 n) 12 size in
    let back = drop_at iv (to_be_bytes w32 n) 12 size in
    let number : from_be_bytes w32 (drop 12 (iv ++ to_be_bytes w32 n)) ≡ n =
    ap (λ (xs : List ℕ). from_be_bytes w32 xs) back ∙ from_be_bytes-to_be_bytes_4 n (omega arith) in
    let small : (n + 1) % 2 ^ 32 ≡ n + 1 = omega arith in
    ap (λ (xs : List ℕ). xs ++ to_be_bytes w32 ((from_be_bytes w32 (drop 12 (iv ++ to_be_bytes w32 n)) + 1) % 2 ^ 32)) front
    ∙ ap (λ (x : ℕ). iv ++ to_be_bytes w32 ((x + 1) % 2 ^ 32)) number
    ∙ ap (λ (x : ℕ). iv ++ to_be_bytes w32 x) small

-- a counter block is the IV and the next number
pub counter_is : (iv : List ℕ) (k : ℕ) → length iv ≡ 12 → k + 1 < 2 ^ 32 → counter_block iv k ≡ iv ++ to_be_bytes w32 (k + 1)
unfolding counter_block
counter_is iv zero size fits = refl
counter_is iv (suc k) size fits =
    let next : k + 1 + 1 ≡ suc k + 1 = omega arith in
    ap inc32 (counter_is iv k size (omega arith)) ∙ inc32_at iv (k + 1) size (omega arith)
    ∙ ap (λ (n : ℕ). iv ++ to_be_bytes w32 n) next

-- the block as the body fills it
pub counter_filled : (iv low : List ℕ) → length iv ≡ 12 → put_mid 12 4 (iv ++ 0 ∷ 0 ∷ 0 ∷ 0 ∷ []) low ≡ iv ++ low
counter_filled iv low size =
    ap (λ (xs : List ℕ). xs ++ (low ++ drop 4 (drop 12 (iv ++ 0 ∷ 0 ∷ 0 ∷ 0 ∷ [])))) (take_at iv (0 ∷ 0 ∷ 0 ∷ 0 ∷ []) 12 size)
    ∙ ap (λ (xs : List ℕ). iv ++ (low ++ drop 4 xs)) (drop_at iv (0 ∷ 0 ∷ 0 ∷ 0 ∷ []) 12 size)
    ∙ ap (λ (xs : List ℕ). iv ++ xs) (append-nil low)

-- ---- the key stream

-- The text is old, with the key stream added to the first i blocks.
pub record Streamed (key iv old text : List ℕ) (i : ℕ) : Type 0 where
  pub size : length text ≡ length old
  pub done : (k : ℕ) → k < 16 * i → k < length old → get_or text k 0 ≡ bit_xor (get_or old k 0) (key_stream key iv k)
  pub left : (k : ℕ) → 16 * i ≤ k → get_or text k 0 ≡ get_or old k 0

key_stream_at : (key iv mask : List ℕ) (i k : ℕ) → 16 * i ≤ k → k < 16 * i + 16 → mask ≡ aes key (counter_block iv (i + 1)) → get_or mask (k - 16 * i) 0 ≡ key_stream key iv k
unfolding key_stream
key_stream_at key iv mask i k from to e =
    let place : k - 16 * i ≡ k % 16 = omega arith in
    let number : i + 1 ≡ k / 16 + 1 = omega arith in
    ap (λ (xs : List ℕ). get_or xs (k - 16 * i) 0) e
    ∙ ap (λ (n : ℕ). get_or (aes key (counter_block iv (i + 1))) n 0) place
    ∙ ap (λ (n : ℕ). get_or (aes key (counter_block iv n)) (k % 16) 0) number

pub streamed_all : (key iv old text : List ℕ) (i : ℕ) → Streamed key iv old text i → length old ≤ 16 * i → text ≡ ciphertext key iv old
unfolding ciphertext
streamed_all key iv old text i so_far end =
    fill_by_all (λ j. bit_xor (get_or old j 0) (key_stream key iv j)) text (length old) 0 so_far.size
    (λ k h. so_far.done k (omega arith) h)

-- what a part that was written back holds
part_below : (xs ys : List ℕ) (a n k : ℕ) → a ≤ length xs → k < a → get_or (put_mid a n xs ys) k 0 ≡ get_or xs k 0
part_below xs ys a n k within h =
    get_or_append_left (take a xs) (ys ++ drop n (drop a xs)) 0 k (omega (arith, length-take a xs))
    ∙ get_or-take a xs k 0 h

part_inside : (xs ys : List ℕ) (a n k : ℕ) → a ≤ length xs → a ≤ k → k < a + length ys → get_or (put_mid a n xs ys) k 0 ≡ get_or ys (k - a) 0
part_inside xs ys a n k within h i =
    get_or-append_right (take a xs) (ys ++ drop n (drop a xs)) a k 0 (omega (arith, length-take a xs)) h
    ∙ get_or_append_left ys (drop n (drop a xs)) 0 (k - a) (omega arith)

part_behind : (xs ys : List ℕ) (a n k : ℕ) → a ≤ length xs → length ys ≡ n → a + n ≤ k → get_or (put_mid a n xs ys) k 0 ≡ get_or xs k 0
part_behind xs ys a n k within e h =
    let place : a + (n + (k - a - n)) ≡ k = omega arith in
    get_or-append_right (take a xs) (ys ++ drop n (drop a xs)) a k 0 (omega (arith, length-take a xs)) (omega arith)
    ∙ get_or-append_right ys (drop n (drop a xs)) n (k - a) 0 e (omega arith)
    ∙ get_or-drop n (drop a xs) (k - a - n) 0
    ∙ get_or-drop a xs (n + (k - a - n)) 0
    ∙ ap (λ (j : ℕ). get_or xs j 0) place

length-part : (xs ys : List ℕ) (a n : ℕ) → a + n ≤ length xs → length ys ≡ n → length (put_mid a n xs ys) ≡ length xs
length-part xs ys a n fits e =
    omega (arith, length-append (take a xs) (ys ++ drop n (drop a xs)), length-append ys (drop n (drop a xs)), length-take a xs, length-drop n (drop a xs), length-drop a xs)

-- one block more
pub streamed_more : (key iv old text mask new : List ℕ) (i n : ℕ) → Streamed key iv old text i → 16 * i < length old
    → n ≡ min (length text) (16 * i + 16) - 16 * i → mask ≡ aes key (counter_block iv (i + 1)) → length new ≡ n
    → ((k : ℕ) → k < n → get_or new k 0 ≡ bit_xor (get_or (take n (drop (16 * i) text)) k 0) (get_or mask k 0))
    → Streamed key iv old (put_mid (16 * i) n text new) (i + 1)
streamed_more key iv old text mask new i n so_far some n_is mask_is size each =
    let size_text = so_far.size in
    record {
      size = length-part text new (16 * i) n (omega arith) size ∙ so_far.size;
      done = λ k below inside.
          ⊎_elim (λ (before : k < 16 * i). part_below text new (16 * i) n k (omega arith) before ∙ so_far.done k before inside)
          (λ (here : 16 * i ≤ k).
          let place : 16 * i + (k - 16 * i) ≡ k = omega arith in
          let in_part : k - 16 * i < n = omega arith in
          part_inside text new (16 * i) n k (omega arith) here (omega arith)
          ∙ each (k - 16 * i) in_part
          ∙ ap (λ (x : ℕ). bit_xor x (get_or mask (k - 16 * i) 0))
          (get_or-take n (drop (16 * i) text) (k - 16 * i) 0 in_part ∙ get_or-drop (16 * i) text (k - 16 * i) 0
          ∙ ap (λ (j : ℕ). get_or text j 0) place ∙ so_far.left k here)
          ∙ ap (λ (x : ℕ). bit_xor (get_or old k 0) x) (key_stream_at key iv mask i k here (omega arith) mask_is))
          (cases_lt k (16 * i));
      left = λ k after. part_behind text new (16 * i) n k (omega arith) size (omega arith) ∙ so_far.left k (omega arith);
    }
