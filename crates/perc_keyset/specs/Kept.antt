-- What is kept beside the accepted adds and removals, so that an answer costs no walk over them.
use Rattle.std.specs.BTreeMap as tree
use Rattle.std.specs.BTreeMap.{BTreeMap}
use Rattle.std.specs.Option.{option_map}
use Rattle.std.specs.Prelude.{◌≡◌, ℕ, ◌≤◌, Bool, ◌||◌, nat_lt, if◌then◌else◌, List, length, Option, Some, None, find}
use Rattle.perc_kdf.specs.Derivation.{KeyAndSalt}
use Rattle.perc_kdf.specs.Order.{pair_cmp, same_pair}
use Rattle.perc_keyset.specs.declared.Entry.{Entry}
use Rattle.perc_keyset.specs.declared.Op.{Op}
use Rattle.perc_keyset.specs.declared.given.Gift.{Gift}
use Rattle.perc_keyset.specs.Set.{fold_ops}
use Rattle.perc_keyset.specs.History.{IsHistory, adds}
use Rattle.perc_keyset.specs.Accepting.{most_adds}

-- this add gave this pair
abbrev pub gives : KeyAndSalt → Entry → Bool
gives pair e = same_pair e.client pair || same_pair e.server pair

abbrev pub gift_of : Entry → Gift
gift_of e = record { serial = e.serial; association = e.association }

-- the add that gave a pair
abbrev pub given_by : List Entry → KeyAndSalt → Option Gift
given_by added pair = option_map gift_of (find (gives pair) added)

-- the earlier of two adds
abbrev pub earlier : Option Gift → Option Gift → Option Gift
earlier None other = other
earlier (Some gift) None = Some gift
earlier (Some gift) (Some other) = if nat_lt other.serial gift.serial then Some other else Some gift

-- The map holds each pair of these adds, and no other.
abbrev pub AreGiven : List Entry → BTreeMap KeyAndSalt Gift → Type 0
AreGiven added map = (pair : KeyAndSalt) → tree.get pair_cmp map pair ≡ given_by added pair

-- The second map has this at the pairs of an add, and what the first has elsewhere.
abbrev pub HasAtPairs : Entry → Option Gift → BTreeMap KeyAndSalt Gift → BTreeMap KeyAndSalt Gift → Type 0
HasAtPairs e value first second =
    (pair : KeyAndSalt) → tree.get pair_cmp second pair ≡ (if gives pair e then value else tree.get pair_cmp first pair)

-- The two maps have the same everywhere.
abbrev pub HaveSame : BTreeMap KeyAndSalt Gift → BTreeMap KeyAndSalt Gift → Type 0
HaveSame first second = (pair : KeyAndSalt) → tree.get pair_cmp second pair ≡ tree.get pair_cmp first pair

-- What is kept is that of this history: its set, the number of adds, and the pairs that they gave.
pub record IsKept (set : List Entry) (ops : List Op) (count : ℕ) (map : BTreeMap KeyAndSalt Gift) : Type 0 where
  pub history : IsHistory ops
  pub held : set ≡ fold_ops ops
  pub counted : count ≡ length (adds ops)
  pub few : length (adds ops) ≤ most_adds
  pub given : AreGiven (adds ops) map
