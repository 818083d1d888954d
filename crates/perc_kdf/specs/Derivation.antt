-- Key derivation of SRTP (RFC 3711 section 4.3) with a derivation rate of 0, in counter mode of AES, for keys of 128 bits
-- and of 256 (RFC 6188), with a salt of 96 bits (RFC 7714 section 11). Keys, salts and blocks are lists of octets.
use Rattle.std.specs.Prelude.{◌≡◌, ℕ, ◌/◌, ◌%◌, ◌<◌, ◌⊎◌, List, [], ◌∷◌, ◌++◌, length, map, bit_xor, slice_index, slice_set}
use Rattle.std.specs.List.{range_with_len}
use Rattle.perc_aes.specs.Cipher.{IsKey, aes}
use Rattle.perc_kdf.specs.declared.Kind.{Kind}
use Rattle.perc_kdf.specs.declared.Kind.TheVariants.{Srtp, Srtcp}

-- a key with its salt
pub record KeyAndSalt : Type 0 where
  pub key : List ℕ
  pub salt : List ℕ

-- a master key has 16 or 32 octets
abbrev pub IsMasterLength : ℕ → Type 0
IsMasterLength n = (n ≡ 16) ⊎ (n ≡ 32)

-- This is a master key with its salt: 16 or 32 octets, and 12.
pub record IsMaster (master : KeyAndSalt) : Type 0 where
  pub key_size : IsMasterLength (length master.key)
  pub key_octets : (k : ℕ) → slice_index master.key k < 256
  pub salt_size : length master.salt ≡ 12
  pub salt_octets : (k : ℕ) → slice_index master.salt k < 256

-- what the cipher is put to for block i of the stream: the salt of 14 octets with the label added to its octet 7,
-- and the number of the block in two octets, the high one first
abbrev pub counter_block : List ℕ → ℕ → ℕ → List ℕ
counter_block salt label i =
    slice_set salt 7 (bit_xor (slice_index salt 7) label) ++ (i / 256 ∷ i % 256 ∷ [])

-- octet k of the stream: the blocks that the cipher makes, end to end
abbrev pub stream_octet : List ℕ → List ℕ → ℕ → ℕ → ℕ
stream_octet key salt label k = slice_index (aes key (counter_block salt label (k / 16))) (k % 16)

-- the first n octets of the stream
unfoldable pub derived : List ℕ → List ℕ → ℕ → ℕ → List ℕ
derived key salt label n = map (stream_octet key salt label) (range_with_len 0 n)

-- a salt of 12 octets, padded on the right to 14
abbrev pub padded : List ℕ → List ℕ
padded salt = salt ++ (0 ∷ 0 ∷ [])

-- the labels of the cipher keys, and those of the salts
abbrev pub key_label : Kind → ℕ
key_label Srtp = 0
key_label Srtcp = 3

abbrev pub salt_label : Kind → ℕ
salt_label Srtp = 2
salt_label Srtcp = 5

-- the session key, as long as the master key, and the session salt of 12 octets
abbrev pub session_keys : KeyAndSalt → Kind → KeyAndSalt
session_keys master kind = record {
  key = derived master.key (padded master.salt) (key_label kind) (length master.key);
  salt = derived master.key (padded master.salt) (salt_label kind) 12;
}

-- These are the keys of a session: a cipher key of 16 or 32 octets, and a salt of 12.
pub record IsSession (keys : KeyAndSalt) : Type 0 where
  pub key : IsKey keys.key
  pub size : IsMasterLength (length keys.key)
  pub salt : length keys.salt ≡ 12
  pub salt_octets : (k : ℕ) → slice_index keys.salt k < 256
