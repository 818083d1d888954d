-- What a history of adds and removals is: each add has the number of those before it, and no outer pair stands twice.
use Rattle.std.specs.Prelude.{◌≡◌, ◌≢◌, ◌≤◌, List, [], ◌∷◌, ◌++◌, length, map, All, AllPairs, Contains}
use Rattle.std.specs.List.{range_with_len, flat_map}
use Rattle.perc_kdf.specs.Derivation.{KeyAndSalt}
use Rattle.perc_keyset.specs.declared.Entry.{Entry}
use Rattle.perc_keyset.specs.declared.Op.{Op}
use Rattle.perc_keyset.specs.declared.Op.TheVariants.{Add, Remove}
use Rattle.perc_keyset.specs.Set.{fold_ops, most_entries}

-- the entries that were added, the oldest first
abbrev pub adds : List Op → List Entry
adds [] = []
adds (Add e ∷ ops) = e ∷ adds ops
adds (Remove association ∷ ops) = adds ops

-- the outer pairs of these entries: each client's and each server's
abbrev pub pairs_of : List Entry → List KeyAndSalt
pairs_of entries = flat_map (λ e. e.client ∷ e.server ∷ []) entries

-- Each serial is the number of adds before, and no pair stands twice, neither in two adds nor in one.
pub record IsHistory (ops : List Op) : Type 0 where
  pub serials : map (λ e. e.serial) (adds ops) ≡ range_with_len 0 (length (adds ops))
  pub pairs : AllPairs (λ p q. p ≢ q) (pairs_of (adds ops))

-- What is always so of the set of a history: an association stands once, there are few entries, and each was added.
pub record IsSetOf (entries : List Entry) (ops : List Op) : Type 0 where
  pub fold : entries ≡ fold_ops ops
  pub once : AllPairs (λ d e. d.association ≢ e.association) entries
  pub few : length entries ≤ most_entries
  pub added : All (Contains (adds ops)) entries

-- An entry that has left the set of a history doesn't come back: where its serial isn't in the set of a longer history, it is
-- in the set of no still longer one.
abbrev pub NeverAgain : List Op → List Op → List Op → Type 0
NeverAgain ops more later =
    IsHistory (ops ++ more ++ later) → (e : Entry) → Contains (fold_ops ops) e
    → (Contains (map (λ d. d.serial) (fold_ops (ops ++ more))) e.serial → ⊥)
    → Contains (map (λ d. d.serial) (fold_ops (ops ++ more ++ later))) e.serial → ⊥

-- The set of a history has d, and that of its beginning has e.
pub record AreHeldInTurn (ops more : List Op) (e d : Entry) : Type 0 where
  pub history : IsHistory (ops ++ more)
  pub early : Contains (fold_ops ops) e
  pub late : Contains (fold_ops (ops ++ more)) d
