-- A sender's key, as a full field carries it: wrapped with its SSRC and its ROC under the EKT key (RFC 8870 section 4.1).
use Rattle.std.specs.Prelude.{◌≡◌, ℕ, ◌+◌, ◌-◌, ◌^◌, ◌<◌, ◌&&◌, ◌==◌, if◌then◌else◌, List, ◌∷◌, ◌++◌, length, take, drop, replicate, slice_index, Option, Some, None, Result, Err}
use Rattle.std.specs.Option.{ok_or}
use Rattle.byteorder.specs.Endian.{big_bytes, big_number}
use Rattle.perc_keywrap.specs.Unwrap.{unwrapped}
use Rattle.perc_keywrap.specs.Wrap.{wrapped}
use Rattle.perc_ekt.specs.declared.key.KeyFault.{KeyFault}
use Rattle.perc_ekt.specs.declared.key.KeyFault.TheVariants.{Unwrap, Plain}
use Rattle.perc_ekt.specs.declared.key.Wrapped.{Wrapped}

-- ---- wrapped

-- a sender's key with the sender's SSRC and the ROC
pub record WrappedKey : Type 0 where
  pub key : List ℕ
  pub ssrc : ℕ
  pub roc : ℕ

-- The key has this length, and the SSRC and the ROC have 32 bits.
pub record HasSize (size : ℕ) (k : WrappedKey) : Type 0 where
  pub len : length k.key ≡ size
  pub octets : (i : ℕ) → slice_index k.key i < 256
  pub ssrc : k.ssrc < 2 ^ 32
  pub roc : k.roc < 2 ^ 32

-- the plain text: the key's length in one octet, the key, the SSRC and the ROC
unfoldable pub plain_text : List ℕ → ℕ → ℕ → List ℕ
plain_text key ssrc roc = length key ∷ (key ++ big_bytes 4 ssrc ++ big_bytes 4 roc)

-- what a key is wrapped to under an EKT key
abbrev pub wrapped_key : List ℕ → WrappedKey → List ℕ
wrapped_key ekt k = wrapped ekt (plain_text k.key k.ssrc k.roc)

-- The plain text is that of a key of this length, with an SSRC and a ROC.
abbrev pub IsPlainText : ℕ → List ℕ → ℕ → ℕ → List ℕ → Type 0
IsPlainText size key ssrc roc plain =
    (length key ≡ size) × (ssrc < 2 ^ 32) × (roc < 2 ^ 32) × (plain ≡ plain_text key ssrc roc)

-- ---- opened (section 4.3)

-- what a plain text says, where it is one with a key of this length
unfoldable pub key_in : ℕ → List ℕ → Option WrappedKey
key_in size plain =
    if length plain == size + 9 && slice_index plain 0 == size
    then Some (record {
      key = take size (drop 1 plain);
      ssrc = big_number 4 (drop (size + 1) plain);
      roc = big_number 4 (drop (size + 5) plain);
    })
    else None

abbrev pub key_or_fault : ℕ → Option (List ℕ) → Result WrappedKey KeyFault
key_or_fault size None = Err Unwrap
key_or_fault size (Some plain) = ok_or (key_in size plain) Plain

-- the key of this length that octets open to under an EKT key, or why they don't: nothing was wrapped to them, or something
-- else was
unfoldable pub opened_key : List ℕ → ℕ → List ℕ → Result WrappedKey KeyFault
opened_key ekt size octets = key_or_fault size (unwrapped ekt octets)

-- ---- told

-- a key in room for the longer one, with zeros behind the shorter
abbrev pub stored : List ℕ → List ℕ
stored key = key ++ replicate (32 - length key) 0

-- what is told of an unwrapped key
abbrev pub unwrapped_as : List ℕ → ℕ → ℕ → Wrapped
unwrapped_as key ssrc roc = record { key = stored key; len = length key; ssrc = ssrc; roc = roc }

-- What is told of a key of this length is in range.
pub record IsUnwrapped (size : ℕ) (w : Wrapped) : Type 0 where
  pub len : w.len ≡ size
  pub octets : (i : ℕ) → slice_index w.key i < 256
  pub ssrc : w.ssrc < 2 ^ 32
  pub roc : w.roc < 2 ^ 32
