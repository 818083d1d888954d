-- The blocks of a list of octets, one by one.
use Rattle.std.proofs.Common.{◌≡◌, ℕ, zero, suc, ◌+◌, ◌-◌, ◌*◌, ◌%◌, ◌^◌, ◌<◌, ◌≤◌, List, [], ◌∷◌, ◌++◌, length, map, take, drop, replicate, get_or, bit_or, bit_xor, ⊎_elim, refl, sym, ◌∙◌, ap, arith}
use Rattle.std.specs.Int.{byte_worth, sum_through, div_ceil}
use Rattle.std.specs.List.{range_with_len}
use Rattle.std.proofs.lemmas.Bool.{cases_lt}
use Rattle.std.proofs.lemmas.List.{get_or-replicate, get_or_past, get_or-take, get_or-drop, get_or_append_left, get_or-append_right, length-take, length-drop, drop-drop, take_all}
use Rattle.std.proofs.lemmas.Nat.{or_shifted, xor_lt}
use Rattle.perc_gcm.specs.Field.{add, product, ghash}
use Rattle.perc_gcm.specs.Gcm.{block_at, blocks, element, hashed, lengths}
use Rattle.perc_gcm.specs.Running.{running}
use Rattle.perc_gcm.proofs.FieldLaws.{Linear-left, product_assoc, running_hash}

sum_same : (f g : ℕ → ℕ) (n : ℕ) → ((k : ℕ) → k ≤ n → f k ≡ g k) → sum_through f n ≡ sum_through g n
sum_same f g zero same = same 0 (omega arith)
sum_same f g (suc n) same =
    ap (λ (x : ℕ). x + f (suc n)) (sum_same f g n (λ k h. same k (omega arith)))
    ∙ ap (λ (x : ℕ). sum_through g n + x) (same (suc n) (omega arith))

-- an element has only its first 16 octets
pub element_same : (a b : List ℕ) → ((k : ℕ) → k < 16 → get_or a k 0 ≡ get_or b k 0) → element a ≡ element b
unfolding element
element_same a b same =
    sum_same (λ k. byte_worth (15 - k) (get_or a k 0)) (λ k. byte_worth (15 - k) (get_or b k 0)) 15
    (λ k h. ap (λ (x : ℕ). byte_worth (15 - k) x) (same k (omega arith)))

-- octets below 256 make an element
pub element_is_element : (a : List ℕ) → ((k : ℕ) → get_or a k 0 < 256) → element a < 2 ^ 128
unfolding element
element_is_element a octets =
    let h0 = octets 0 in
    let h1 = octets 1 in
    let h2 = octets 2 in
    let h3 = octets 3 in
    let h4 = octets 4 in
    let h5 = octets 5 in
    let h6 = octets 6 in
    let h7 = octets 7 in
    let h8 = octets 8 in
    let h9 = octets 9 in
    let h10 = octets 10 in
    let h11 = octets 11 in
    let h12 = octets 12 in
    let h13 = octets 13 in
    let h14 = octets 14 in
    let h15 = octets 15 in
    omega arith

padded_at : (octets : List ℕ) (k : ℕ) → length octets ≤ 16 → k < 16 → get_or (octets ++ drop (length octets) (replicate 16 0)) k 0 ≡ get_or octets k 0
padded_at octets k short inside =
    ⊎_elim (λ (within : k < length octets). get_or_append_left octets (drop (length octets) (replicate 16 0)) 0 k within)
    (λ (past : length octets ≤ k).
    let place : length octets + (k - length octets) ≡ k = omega arith in
    get_or-append_right octets (drop (length octets) (replicate 16 0)) (length octets) k 0 refl past
    ∙ get_or-drop (length octets) (replicate 16 0) (k - length octets) 0
    ∙ ap (λ (n : ℕ). get_or (replicate 16 0) n 0) place
    ∙ get_or-replicate 16 k 0 0 inside
    ∙ sym (get_or_past octets k 0 past))
    (cases_lt k (length octets))

-- zero octets behind a short block change nothing
pub element_padded : (octets : List ℕ) → length octets ≤ 16 → element (octets ++ drop (length octets) (replicate 16 0)) ≡ element octets
element_padded octets short =
    element_same (octets ++ drop (length octets) (replicate 16 0)) octets (λ k h. padded_at octets k short h)

-- ---- the running hash

pub running_append : (h y : ℕ) (xs ys : List ℕ) → running h y (xs ++ ys) ≡ running h (running h y xs) ys
unfolding running
running_append h y [] ys = refl
running_append h y (x ∷ xs) ys = running_append h (product (add y x) h) xs ys

pub running_last : (h y x : ℕ) → product (add y x) h ≡ running h y (x ∷ [])
unfolding running
running_last h y x = refl

-- blocks from place a on are those of the rest from 0 on
blocks_from : (octets : List ℕ) (n a : ℕ) → map (λ k. block_at octets k) (range_with_len (a + 1) n) ≡ map (λ k. block_at (drop 16 octets) k) (range_with_len a n)
blocks_from octets zero a = refl
blocks_from octets (suc n) a =
    let place : 16 + 16 * a ≡ 16 * (a + 1) = omega arith in
    ap (λ (x : ℕ). x ∷ map (λ k. block_at octets k) (range_with_len (a + 1 + 1) n))
    (ap (λ (j : ℕ). element (take 16 (drop j octets))) (sym place) ∙ ap (λ (xs : List ℕ). element (take 16 xs)) (sym (drop-drop (16 * a) 16 octets)))
    ∙ ap (λ (xs : List ℕ). block_at (drop 16 octets) a ∷ xs) (blocks_from octets n (a + 1))

-- the first block of sixteen octets or more
pub blocks_first : (octets : List ℕ) → 16 ≤ length octets → blocks octets ≡ element (take 16 octets) ∷ blocks (drop 16 octets)
unfolding blocks
blocks_first octets long =
    let size = length-drop 16 octets in
    let count : div_ceil (length octets) 16 ≡ suc (div_ceil (length (drop 16 octets)) 16) = omega arith in
    ap (λ (n : ℕ). map (λ k. block_at octets k) (range_with_len 0 n)) count
    ∙ ap (λ (xs : List ℕ). block_at octets 0 ∷ xs) (blocks_from octets (div_ceil (length (drop 16 octets)) 16) 0)

-- no octets have no block
pub blocks_none : (octets : List ℕ) → length octets ≡ 0 → blocks octets ≡ []
unfolding blocks
blocks_none octets none = ap (λ (n : ℕ). map (λ k. block_at octets k) (range_with_len 0 (div_ceil n 16))) none

-- and up to sixteen have one
pub blocks_one : (octets : List ℕ) → 0 < length octets → length octets ≤ 16 → blocks octets ≡ element octets ∷ []
unfolding blocks
blocks_one octets some short =
    let count : div_ceil (length octets) 16 ≡ 1 = omega arith in
    ap (λ (n : ℕ). map (λ k. block_at octets k) (range_with_len 0 n)) count
    ∙ ap (λ (xs : List ℕ). element xs ∷ []) (take_all 16 octets short)

-- one block is hashed
pub running_first : (h y z x : ℕ) (octets block behind : List ℕ) → 16 ≤ length octets → block ≡ take 16 octets → behind ≡ drop 16 octets
    → x ≡ element block → z ≡ product (bit_xor y x) h → running h z (blocks behind) ≡ running h y (blocks octets)
unfolding running
running_first h y z x octets block behind long block_is behind_is x_is z_is =
    ap (λ (xs : List ℕ). running h z (blocks xs)) behind_is
    ∙ ap (λ (v : ℕ). running h v (blocks (drop 16 octets))) (z_is ∙ ap (λ (v : ℕ). product (add y v) h) (x_is ∙ ap (λ (xs : List ℕ). element xs) block_is))
    ∙ ap (λ (xs : List ℕ). running h y xs) (sym (blocks_first octets long))

-- two blocks in a row, by the square
two_products : (h y a b : ℕ) → h < 2 ^ 128 → y < 2 ^ 128 → a < 2 ^ 128 → product (add (product (add y a) h) b) h ≡ add (product (add y a) (product h h)) (product b h)
two_products h y a b h_fits y_fits a_fits =
    (Linear-left h).sums (product (add y a) h) b
    ∙ ap (λ (x : ℕ). add x (product b h)) (product_assoc (add y a) h h (xor_lt 128 y a y_fits a_fits) h_fits h_fits)

-- the two blocks of 32 octets
first_of_pair : (octets pair : List ℕ) → pair ≡ take 32 octets → element (take 16 pair) ≡ element (take 16 octets)
first_of_pair octets pair pair_is =
    element_same (take 16 pair) (take 16 octets)
    (λ k inside.
    get_or-take 16 pair k 0 inside ∙ ap (λ (xs : List ℕ). get_or xs k 0) pair_is
    ∙ get_or-take 32 octets k 0 (omega arith) ∙ sym (get_or-take 16 octets k 0 inside))

second_of_pair : (octets pair : List ℕ) → pair ≡ take 32 octets → element (take 16 (drop 16 pair)) ≡ element (take 16 (drop 16 octets))
second_of_pair octets pair pair_is =
    element_same (take 16 (drop 16 pair)) (take 16 (drop 16 octets))
    (λ k inside.
    get_or-take 16 (drop 16 pair) k 0 inside ∙ get_or-drop 16 pair k 0 ∙ ap (λ (xs : List ℕ). get_or xs (16 + k) 0) pair_is
    ∙ get_or-take 32 octets (16 + k) 0 (omega arith) ∙ sym (get_or-drop 16 octets k 0) ∙ sym (get_or-take 16 (drop 16 octets) k 0 inside))

-- two blocks are hashed
pub running_pair : (h y z a b : ℕ) (octets pair behind : List ℕ) → h < 2 ^ 128 → y < 2 ^ 128 → a < 2 ^ 128 → 32 ≤ length octets
    → pair ≡ take 32 octets → behind ≡ drop 32 octets → a ≡ element (take 16 pair) → b ≡ element (take 16 (drop 16 pair))
    → z ≡ add (product (bit_xor y a) (product h h)) (product b h) → running h z (blocks behind) ≡ running h y (blocks octets)
unfolding running
running_pair h y z a b octets pair behind h_fits y_fits a_fits long pair_is behind_is a_is b_is z_is =
    let rest = drop 16 octets in
    let short : 16 ≤ length octets = omega arith in
    let rest_long : 16 ≤ length rest = omega (arith, length-drop 16 octets) in
    let both : blocks octets ≡ element (take 16 octets) ∷ element (take 16 rest) ∷ blocks behind =
    blocks_first octets short ∙ ap (λ (xs : List ℕ). element (take 16 octets) ∷ xs) (blocks_first rest rest_long)
    ∙ ap (λ (xs : List ℕ). element (take 16 octets) ∷ element (take 16 rest) ∷ blocks xs) (drop-drop 16 16 octets ∙ sym behind_is) in
    ap (λ (v : ℕ). running h v (blocks behind)) (z_is ∙ sym (two_products h y a b h_fits y_fits a_fits)
    ∙ ap (λ (v : ℕ). product (add (product (add y v) h) b) h) (a_is ∙ first_of_pair octets pair pair_is)
    ∙ ap (λ (v : ℕ). product (add (product (add y (element (take 16 octets))) h) v) h) (b_is ∙ second_of_pair octets pair pair_is))
    ∙ ap (λ (xs : List ℕ). running h y xs) (sym both)

pub running_none : (h y : ℕ) (octets : List ℕ) → length octets ≡ 0 → running h y (blocks octets) ≡ y
unfolding running
running_none h y octets none = ap (λ (xs : List ℕ). running h y xs) (blocks_none octets none)

-- the last block is hashed
pub running_rest : (h y : ℕ) (octets : List ℕ) → 0 < length octets → length octets ≤ 16 → product (bit_xor y (element octets)) h ≡ running h y (blocks octets)
running_rest h y octets some short =
    running_last h y (element octets) ∙ ap (λ (xs : List ℕ). running h y xs) (sym (blocks_one octets some short))

-- ---- what is hashed

-- numbers below m before and behind
pub below_append : (m : ℕ) (xs ys : List ℕ) → ((k : ℕ) → get_or xs k 0 < m) → ((k : ℕ) → get_or ys k 0 < m) → (k : ℕ) → get_or (xs ++ ys) k 0 < m
below_append m [] ys p q k = q k
below_append m (x ∷ xs) ys p q zero = p 0
below_append m (x ∷ xs) ys p q (suc k) = below_append m xs ys (λ j. p (suc j)) q k

elements_map : (f : ℕ → ℕ) (n a : ℕ) → ((i : ℕ) → f i < 2 ^ 128) → (k : ℕ) → get_or (map f (range_with_len a n)) k 0 < 2 ^ 128
elements_map f zero a all k = omega arith
elements_map f (suc n) a all zero = all a
elements_map f (suc n) a all (suc k) = elements_map f n (a + 1) all k

elements_one : (x : ℕ) → x < 2 ^ 128 → (k : ℕ) → get_or (x ∷ []) k 0 < 2 ^ 128
elements_one x h zero = h
elements_one x h (suc k) = omega arith

part_octets : (octets : List ℕ) (n k : ℕ) → ((j : ℕ) → get_or octets j 0 < 256) → get_or (take 16 (drop n octets)) k 0 < 256
part_octets octets n k all =
    ⊎_elim (λ (inside : k < 16).
    let e = get_or-take 16 (drop n octets) k 0 inside ∙ get_or-drop n octets k 0 in
    omega (arith, e, all (n + k)))
    (λ (past : 16 ≤ k).
    let short : length (take 16 (drop n octets)) ≤ k = omega (arith, length-take 16 (drop n octets)) in
    omega (arith, get_or_past (take 16 (drop n octets)) k 0 short))
    (cases_lt k 16)

blocks_are_elements : (octets : List ℕ) → ((j : ℕ) → get_or octets j 0 < 256) → (k : ℕ) → get_or (blocks octets) k 0 < 2 ^ 128
unfolding blocks
blocks_are_elements octets all k =
    elements_map (λ i. block_at octets i) (div_ceil (length octets) 16) 0
    (λ i. element_is_element (take 16 (drop (16 * i) octets)) (λ j. part_octets octets (16 * i) j all))
    k

lengths_is_element : (aad cipher : List ℕ) → length aad ≤ 65536 → length cipher ≤ 65536 → lengths aad cipher < 2 ^ 128
unfolding lengths
lengths_is_element aad cipher p q = omega arith

-- the two lengths as the body joins them
pub lengths_joined : (aad cipher : List ℕ) → length aad ≤ 65536 → length cipher ≤ 65536 → bit_or (8 * length aad * 2 ^ 64 % 2 ^ 128) (8 * length cipher) ≡ lengths aad cipher
unfolding lengths
lengths_joined aad cipher p q =
    let fits : 8 * length aad * 2 ^ 64 % 2 ^ 128 ≡ 8 * length aad * 2 ^ 64 = omega arith in
    ap (λ (x : ℕ). bit_or x (8 * length cipher)) fits ∙ or_shifted (8 * length aad) 64 (8 * length cipher) (omega arith)

-- what the body hashes gives the hash
pub hash_is : (h : ℕ) (aad cipher : List ℕ) → h < 2 ^ 128 → length aad ≤ 65536 → length cipher ≤ 65536 → ((j : ℕ) → get_or aad j 0 < 256)
    → ((j : ℕ) → get_or cipher j 0 < 256)
    → product (add (running h (running h 0 (blocks aad)) (blocks cipher)) (lengths aad cipher)) h ≡ ghash h (hashed aad cipher)
unfolding hashed
hash_is h aad cipher fits p q all_aad all_cipher =
    running_last h (running h (running h 0 (blocks aad)) (blocks cipher)) (lengths aad cipher)
    ∙ ap (λ (y : ℕ). running h y (lengths aad cipher ∷ [])) (sym (running_append h 0 (blocks aad) (blocks cipher)))
    ∙ sym (running_append h 0 (blocks aad ++ blocks cipher) (lengths aad cipher ∷ []))
    ∙ running_hash h (blocks aad ++ blocks cipher ++ lengths aad cipher ∷ []) fits
    (below_append (2 ^ 128) (blocks aad ++ blocks cipher) (lengths aad cipher ∷ [])
    (below_append (2 ^ 128) (blocks aad) (blocks cipher) (blocks_are_elements aad all_aad) (blocks_are_elements cipher all_cipher))
    (elements_one (lengths aad cipher) (lengths_is_element aad cipher p q)))

-- the hash by the steps of the body
pub hash_made : (h a t g : ℕ) (aad cipher : List ℕ) → h < 2 ^ 128 → length aad ≤ 65536 → length cipher ≤ 65536
    → ((j : ℕ) → get_or aad j 0 < 256) → ((j : ℕ) → get_or cipher j 0 < 256) → a ≡ running h 0 (blocks aad)
    → t ≡ running h a (blocks cipher) → g ≡ product (add t (bit_or (8 * length aad * 2 ^ 64 % 2 ^ 128) (8 * length cipher))) h
    → g ≡ ghash h (hashed aad cipher)
hash_made h a t g aad cipher fits p q all_aad all_cipher a_is t_is g_is =
    g_is
    ∙ ap (λ (x : ℕ). product (add t x) h) (lengths_joined aad cipher p q)
    ∙ ap (λ (x : ℕ). product (add x (lengths aad cipher)) h) (t_is ∙ ap (λ (y : ℕ). running h y (blocks cipher)) a_is)
    ∙ hash_is h aad cipher fits p q all_aad all_cipher
