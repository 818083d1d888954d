-- What the body keeps of a master key: room for the longer key, with zeros behind the shorter.
use Rattle.std.specs.Prelude.{◌≡◌, ℕ, ◌-◌, List, ◌++◌, length, replicate, take}
use Rattle.perc_kdf.specs.Derivation.{IsMasterLength}

-- The octets are those of a key of len octets, and zeros.
pub record IsStoredKey (octets : List ℕ) (len : ℕ) : Type 0 where
  pub is_long : IsMasterLength len
  pub size : length (take len octets) ≡ len
  pub zeros : take len octets ++ replicate (32 - length (take len octets)) 0 ≡ octets
