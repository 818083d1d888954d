-- What the senders of a conference made: a row for each packet that was sent, and a wrap for each key that went out in a full
-- field (RFC 8723 section 5.1, RFC 8870 section 4.1).
use Rattle.std.specs.Prelude.{◌≡◌, ℕ, ◌%◌, ◌^◌, ◌<◌, ◌⊎◌, ◌==◌, nat_lt, List, ◌++◌, length, map, Option, None, All, AllPairs, MatchOption, find, take}
use Rattle.std.specs.List.Sorted.{IsStrictlyIncreasing}
use Rattle.perc_octets.specs.Octets.{AreOctets}
use Rattle.perc_kdf.specs.Derivation.{KeyAndSalt, session_keys}
use Rattle.perc_kdf.specs.declared.Kind.TheVariants.{Srtp}
use Rattle.perc_rtp.specs.Header.{Header, IsHeader}
use Rattle.perc_rtp.specs.Media.{padding_octets}
use Rattle.perc_srtp.specs.Sealed.{sealed_body}
use Rattle.perc_keywrap.specs.Wrap.{wrapped}
use Rattle.perc_ekt.specs.Key.{plain_text}
use Rattle.perc_ekt.specs.declared.record.EktKeyRecord.{EktKeyRecord}

-- the record of an EKT key: its SPI, the key that wraps, and the salt of the inner masters
pub record Secret : Type 0 where
  pub spi : ℕ
  pub key : List ℕ
  pub salt : List ℕ

-- the secret that a record tells
abbrev pub secret_in : EktKeyRecord → Secret
secret_in r = record { spi = r.spi; key = take r.len r.key; salt = r.salt }

-- A secret is right: a key of 16 or 32 octets, and a salt of 12.
pub record IsSecret (s : Secret) : Type 0 where
  pub spi : s.spi < 2 ^ 16
  pub size : (length s.key ≡ 16) ⊎ (length s.key ≡ 32)
  pub key : AreOctets s.key
  pub salt_size : length s.salt ≡ 12
  pub salt : AreOctets s.salt

-- Secrets are right, and their SPIs rise.
pub record AreSecrets (secrets : List Secret) : Type 0 where
  pub right : All IsSecret secrets
  pub rising : IsStrictlyIncreasing (map (λ s. s.spi) secrets)

abbrev pub secret_of : List Secret → ℕ → Option Secret
secret_of secrets spi = find (λ s. s.spi == spi) secrets

-- the session keys of the inner transform, for a key under a secret
abbrev pub inner_keys : Secret → List ℕ → KeyAndSalt
inner_keys s key = session_keys (record { key = key; salt = s.salt }) Srtp

-- a packet that was sent: by whom and as which datagram; under which key of which SPI, at which index; its header as the inner
-- transform took it; its payload, and how many octets of padding stood behind it; and its inner octets
pub record Row : Type 0 where
  pub sender : List ℕ
  pub datagram : ℕ
  pub spi : ℕ
  pub ssrc : ℕ
  pub key : List ℕ
  pub index : ℕ
  pub header : Header
  pub payload : List ℕ
  pub padding : ℕ
  pub inner : List ℕ

-- a key that was wrapped, with its SSRC and ROC
pub record Wrap : Type 0 where
  pub spi : ℕ
  pub ssrc : ℕ
  pub key : List ℕ
  pub roc : ℕ
  pub octets : List ℕ

pub record Table : Type 0 where
  pub rows : List Row
  pub wraps : List Wrap

abbrev pub body_of : Row → List ℕ
body_of row = row.payload ++ padding_octets row.padding

-- The key is as long as that of its SPI's secret, and the inner octets are those of the body under both.
pub record IsSealedUnder (row : Row) (s : Secret) : Type 0 where
  pub size : length row.key ≡ length s.key
  pub inner : row.inner ≡ sealed_body (inner_keys s row.key) row.index row.header (body_of row)

pub record IsWrappedUnder (w : Wrap) (s : Secret) : Type 0 where
  pub size : length w.key ≡ length s.key
  pub octets : w.octets ≡ wrapped s.key (plain_text w.key w.ssrc w.roc)

pub record IsRightRow (secrets : List Secret) (row : Row) : Type 0 where
  pub sealed : MatchOption (secret_of secrets row.spi) ⊥ (IsSealedUnder row)
  pub key : AreOctets row.key
  pub index : row.index < 2 ^ 48
  -- The header reads, is cut, has the row's SSRC and the SEQ of its index, and its bit P says whether there is padding.
  pub header : IsHeader row.header
  pub cut : row.header.extension ≡ None
  pub ssrc : row.header.ssrc ≡ row.ssrc
  pub seq : row.header.seq ≡ row.index % 65536
  pub padded : row.header.padding ≡ nat_lt 0 row.padding
  pub counted : row.padding < 256
  pub payload : AreOctets row.payload

pub record IsRightWrap (secrets : List Secret) (w : Wrap) : Type 0 where
  pub wrapped : MatchOption (secret_of secrets w.spi) ⊥ (IsWrappedUnder w)
  pub key : AreOctets w.key
  pub ssrc : w.ssrc < 2 ^ 32
  pub roc : w.roc < 2 ^ 32

-- no two rows have one SSRC and one index
abbrev pub AreOtherRows : Row → Row → Type 0
AreOtherRows a b = a.ssrc ≡ b.ssrc → a.index ≡ b.index → ⊥

-- The table is right for these secrets.
pub record IsRight (secrets : List Secret) (table : Table) : Type 0 where
  pub rows : All (IsRightRow secrets) table.rows
  pub one_row : AllPairs AreOtherRows table.rows
  pub wraps : All (IsRightWrap secrets) table.wraps
