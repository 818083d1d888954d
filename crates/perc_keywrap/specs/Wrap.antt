-- AES key wrap with padding (RFC 5649), over AES key wrap (RFC 3394). Keys, plain texts, blocks and registers are lists
-- of octets; a register has 8. The registers stand end to end, the first, A in the standards, before the n others.
use Rattle.std.specs.Prelude.{◌≡◌, ℕ, zero, suc, ◌+◌, ◌-◌, ◌*◌, ◌/◌, ◌<◌, ◌≤◌, if◌then◌else◌, ◌==◌, List, ◌++◌, length, map, replicate, take, drop, bit_xor, slice_index}
use Rattle.std.specs.Int.{w32, w64, to_be_bytes}
use Rattle.std.specs.List.{range_with_len}
use Rattle.perc_aes.specs.Cipher.{aes}

-- ---- a step (RFC 3394 section 2.2.1)

-- the block of the first register and register i
unfoldable pub joined : List ℕ → ℕ → List ℕ
joined registers i = take 8 registers ++ take 8 (drop (8 * i) registers)

-- the registers with the halves of a block in place of those two
unfoldable pub put : List ℕ → ℕ → List ℕ → List ℕ
put registers i block = take 8 block ++ take (8 * i - 8) (drop 8 registers) ++ drop 8 block ++ drop (8 * i + 8) registers

-- a block with a number of 64 bits, the high octet first, added to its first half
unfoldable pub numbered : List ℕ → ℕ → List ℕ
numbered block t =
    map (λ k. bit_xor (slice_index block k) (slice_index (to_be_bytes w64 t) k)) (range_with_len 0 8) ++ drop 8 block

-- step t, at register i
unfoldable pub step : List ℕ → List ℕ → ℕ → ℕ → List ℕ
step key registers i t = put registers i (numbered (aes key (joined registers i)) t)

-- The registers after the part of round j, from 0 on, that goes from register 1 to register i, where there are n beside
-- the first: step n * j + i is at register i.
unfoldable pub round : List ℕ → ℕ → ℕ → List ℕ → ℕ → List ℕ
round key n j registers zero = registers
round key n j registers (suc i) = step key (round key n j registers i) (suc i) (n * j + suc i)

-- the registers after so many rounds, each from register 1 to register n
unfoldable pub rounds : List ℕ → ℕ → List ℕ → ℕ → List ℕ
rounds key n registers zero = registers
rounds key n registers (suc j) = round key n j (rounds key n registers j) n

-- ---- wrapping (RFC 5649 section 4.1)

-- how many registers there are beside the first
abbrev pub count : List ℕ → ℕ
count registers = length registers / 8 - 1

-- what the registers become: a block goes through the cipher, more registers through six rounds
unfoldable pub wrapped_registers : List ℕ → List ℕ → List ℕ
wrapped_registers key registers =
    if count registers == 1 then aes key registers else rounds key (count registers) registers 6

-- how many octets the whole registers have that hold n octets
abbrev pub padded_length : ℕ → ℕ
padded_length n = 8 * ((n + 7) / 8)

-- what wrapping begins with: a constant and the length of the plain text, in four octets each, and the plain text with
-- zeros up to a whole register
unfoldable pub prepared : List ℕ → List ℕ
prepared plain =
    to_be_bytes w32 0xa65959a6 ++ to_be_bytes w32 (length plain) ++ plain ++ replicate (padded_length (length plain) - length plain) 0

-- what a plain text becomes under a key
unfoldable pub wrapped : List ℕ → List ℕ → List ℕ
wrapped key plain = wrapped_registers key (prepared plain)

-- how many octets that has
abbrev pub wrapped_length : ℕ → ℕ
wrapped_length n = 8 + padded_length n

-- The octets are what this plain text, of 1 to 4096 octets, becomes under the key.
pub record IsWrapped (key plain octets : List ℕ) : Type 0 where
  pub some : 1 ≤ length plain
  pub few : length plain ≤ 4096
  pub in_range : (k : ℕ) → slice_index plain k < 256
  pub value : wrapped key plain ≡ octets
