-- The record of an EKT key, after the EKTKey message of RFC 8870 section 5.2.2: the key and the master salt, each behind
-- its length of two octets, the SPI in two and the life in seconds in three.
use Rattle.std.specs.Prelude.{◌≡◌, ℕ, ◌+◌, ◌-◌, ◌^◌, ◌<◌, ◌⊎◌, Bool, ◌&&◌, ◌==◌, if◌then◌else◌, List, ◌++◌, length, take, drop, replicate, Option, Some, None}
use Rattle.byteorder.specs.Endian.{big_bytes, big_number}
use Rattle.perc_ekt.specs.Key.{stored}
use Rattle.perc_ekt.specs.declared.record.EktKeyRecord.{EktKeyRecord}

-- A record is right: the key has 16 or 32 octets, with zeros behind it, and the life fits three octets.
pub record IsRecord (r : EktKeyRecord) : Type 0 where
  pub size : (r.len ≡ 16) ⊎ (r.len ≡ 32)
  pub room : length r.key ≡ 32
  pub zeros : drop r.len r.key ≡ replicate (32 - r.len) 0
  pub salt : length r.salt ≡ 12
  pub spi : r.spi < 2 ^ 16
  pub life : r.life < 2 ^ 24

unfoldable pub record_octets : EktKeyRecord → List ℕ
record_octets r =
    big_bytes 2 r.len ++ take r.len r.key ++ big_bytes 2 12 ++ r.salt ++ big_bytes 2 r.spi ++ big_bytes 3 r.life

-- the record with a key of this length, whatever the octets say of lengths
abbrev pub record_at : List ℕ → ℕ → EktKeyRecord
record_at octets len = record {
  key = stored (take len (drop 2 octets));
  len = len;
  salt = take 12 (drop (len + 4) octets);
  spi = big_number 2 (drop (len + 16) octets);
  life = big_number 3 (drop (len + 18) octets);
}

-- whether there are as many octets as in a record with a key of this length, and the lengths in it are right
abbrev pub has_lengths : ℕ → List ℕ → Bool
has_lengths len octets =
    length octets == len + 21 && big_number 2 octets == len && big_number 2 (drop (len + 2) octets) == 12

-- the record with a key of this length that octets spell, where they spell one
unfoldable pub record_of : ℕ → List ℕ → Option EktKeyRecord
record_of len octets = if has_lengths len octets then Some (record_at octets len) else None
