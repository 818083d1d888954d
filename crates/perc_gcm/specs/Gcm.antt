-- Galois/Counter Mode over the block cipher AES (SP 800-38D sections 6 and 7), with an IV of 96 bits and a tag of 128.
-- Keys, IVs, texts and tags are lists of octets; a block in the hash is an element of the field.
use Rattle.std.specs.Prelude.{◌≡◌, ℕ, zero, suc, ◌+◌, ◌-◌, ◌*◌, ◌/◌, ◌%◌, ◌^◌, Bool, if◌then◌else◌, ◌&&◌, nat_le, Option, None, Some, List, [], ◌∷◌, ◌++◌, length, map, take, drop, replicate, slice_index, bit_xor}
use Rattle.std.specs.Int.{w32, w128, div_ceil, from_be_bytes, to_be_bytes}
use Rattle.std.specs.List.{range_with_len}
use Rattle.std.specs.Str.{bytes_eq}
use Rattle.perc_aes.specs.Cipher.{aes}
use Rattle.perc_gcm.specs.Field.{add, ghash}

-- ---- the blocks that are hashed

-- the element that the 16 octets of a block spell, with zero octets behind a shorter list
unfoldable pub element : List ℕ → ℕ
element block = from_be_bytes w128 block

-- the block that begins at octet 16 i
abbrev pub block_at : List ℕ → ℕ → ℕ
block_at octets i = element (take 16 (drop (16 * i) octets))

-- the blocks of a list of octets, the last one filled up with zero octets
unfoldable pub blocks : List ℕ → List ℕ
blocks octets = map (λ i. block_at octets i) (range_with_len 0 (div_ceil (length octets) 16))

-- the block of the two lengths in bits, 64 bits for each
unfoldable pub lengths : List ℕ → List ℕ → ℕ
lengths aad cipher = 8 * length aad * 2 ^ 64 + 8 * length cipher

-- what is hashed: the additional data, the cipher text and their lengths
unfoldable pub hashed : List ℕ → List ℕ → List ℕ
hashed aad cipher = blocks aad ++ blocks cipher ++ lengths aad cipher ∷ []

-- ---- the counter

-- the pre-counter block J0: the IV and the number 1
abbrev pub first_block : List ℕ → List ℕ
first_block iv = iv ++ 0 ∷ 0 ∷ 0 ∷ 1 ∷ []

-- a block with 1 added to its last four octets, modulo 2^32 (section 6.2)
unfoldable pub inc32 : List ℕ → List ℕ
inc32 block = take 12 block ++ to_be_bytes w32 ((from_be_bytes w32 (drop 12 block) + 1) % 2 ^ 32)

-- J0 with k added by inc32. GCTR makes the key stream of the text from 1 on, and 0 masks the tag.
unfoldable pub counter_block : List ℕ → ℕ → List ℕ
counter_block iv zero = first_block iv
counter_block iv (suc k) = inc32 (counter_block iv k)

-- octet j of the key stream: the cipher of the counter blocks from 1 on, end to end
unfoldable pub key_stream : List ℕ → List ℕ → ℕ → ℕ
key_stream key iv j = slice_index (aes key (counter_block iv (j / 16 + 1))) (j % 16)

-- ---- the mode

-- the cipher text, by GCTR from counter block 1 on (section 6.5): each octet of the text and the octet of the key stream in its place
unfoldable pub ciphertext : List ℕ → List ℕ → List ℕ → List ℕ
ciphertext key iv text =
    map (λ j. bit_xor (slice_index text j) (key_stream key iv j)) (range_with_len 0 (length text))

-- the hash subkey H: the cipher of the zero block (section 7.1)
unfoldable pub hash_subkey : List ℕ → ℕ
hash_subkey key = element (aes key (replicate 16 0))

-- the tag
unfoldable pub tag : List ℕ → List ℕ → List ℕ → List ℕ → List ℕ
tag key iv aad cipher =
    to_be_bytes w128 (add (ghash (hash_subkey key) (hashed aad cipher)) (element (aes key (counter_block iv 0))))

-- The tag is right for the additional data and the cipher text.
unfoldable pub Verifies : List ℕ → List ℕ → List ℕ → List ℕ → List ℕ → Type 0
Verifies key iv aad cipher of = of ≡ tag key iv aad cipher

-- the same as a test
unfoldable pub verifies : List ℕ → List ℕ → List ℕ → List ℕ → List ℕ → Bool
verifies key iv aad cipher of = bytes_eq of (tag key iv aad cipher)

-- ---- sealed texts: the cipher text, and the tag behind it

-- a text sealed
unfoldable pub sealed_text : List ℕ → List ℕ → List ℕ → List ℕ → List ℕ
sealed_text key iv aad text = ciphertext key iv text ++ tag key iv aad (ciphertext key iv text)

-- the cipher text of what is sealed: what stands before its last 16 octets
unfoldable pub cipher_part : List ℕ → List ℕ
cipher_part sealed = take (length sealed - 16) sealed

-- the tag of what is sealed: its last 16 octets
unfoldable pub tag_part : List ℕ → List ℕ
tag_part sealed = drop (length sealed - 16) sealed

-- the text of what is sealed; none where there is no tag, or a wrong one
unfoldable pub unsealed_text : List ℕ → List ℕ → List ℕ → List ℕ → Option (List ℕ)
unsealed_text key iv aad sealed =
    if nat_le 16 (length sealed) && verifies key iv aad (cipher_part sealed) (tag_part sealed) then Some (ciphertext key iv (cipher_part sealed)) else None
