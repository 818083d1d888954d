-- What a keeper in memory keeps beside its lists, so that keys and pairs are found without a walk over them.
use Rattle.std.specs.BTreeMap as tree
use Rattle.std.specs.BTreeMap.{BTreeMap}
use Rattle.std.specs.BTreeSet as set
use Rattle.std.specs.BTreeSet.{BTreeSet}
use Rattle.std.specs.Prelude.{◌≡◌, ℕ, List, replicate, Option, All}
use Rattle.perc_kdf.specs.Derivation.{KeyAndSalt}
use Rattle.perc_kdf.specs.Order.{pair_cmp}
use Rattle.perc_ekt.specs.declared.record.EktKeyRecord.{EktKeyRecord}
use Rattle.perc_ekt.specs.Record.{IsRecord}
use Rattle.perc_keeper.specs.Lists.{newest, spi_of, was_given}

-- an EKT key as it is looked up: with a blank salt
abbrev pub looked_up : List ℕ → KeyAndSalt
looked_up key = record { key = key; salt = replicate 12 0 }

-- What is kept of these records serves: they are right, this is the newest, and each key is found in the map.
pub record IsIndexed (records : List EktKeyRecord) (top : Option EktKeyRecord) (spis : BTreeMap KeyAndSalt ℕ) : Type 0 where
  pub right : All IsRecord records
  pub last : top ≡ newest records
  pub found : (key : List ℕ) → tree.get pair_cmp spis (looked_up key) ≡ spi_of records key

-- The set has these pairs, and no other.
abbrev pub AreIn : List KeyAndSalt → BTreeSet KeyAndSalt → Type 0
AreIn pairs found = (pair : KeyAndSalt) → set.contains pair_cmp found pair ≡ was_given pairs pair
