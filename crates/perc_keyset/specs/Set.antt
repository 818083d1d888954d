-- Which associations a distributor forwards to, and under which outer keys: the fold of the adds and removals accepted so
-- far, the oldest first.
use Rattle.std.specs.Prelude.{ℕ, Bool, not, nat_le, if◌then◌else◌, List, [], ◌∷◌, ◌++◌, length, filter, Option, find}
use Rattle.std.specs.List.{list_any}
use Rattle.std.specs.Str.{bytes_eq}
use Rattle.perc_keyset.specs.declared.Entry.{Entry}
use Rattle.perc_keyset.specs.declared.Op.{Op}
use Rattle.perc_keyset.specs.declared.Op.TheVariants.{Add, Remove}

-- how many associations are held at most
abbrev pub most_entries : ℕ
most_entries = 64

-- it is the entry of this association
abbrev pub is_of : List ℕ → Entry → Bool
is_of association e = bytes_eq e.association association

abbrev pub entry_of : List Entry → List ℕ → Option Entry
entry_of entries association = find (is_of association) entries

abbrev pub holds : List Entry → List ℕ → Bool
holds entries association = list_any (is_of association) entries

abbrev pub without : List ℕ → List Entry → List Entry
without association entries = filter (λ e. not (is_of association e)) entries

-- The entries after an add or a removal. An add of a held association takes its old entry out; the new one stands last. An
-- add of another where as many are held as may be changes nothing, nor does a removal of one that isn't held.
unfoldable pub absorbed : List Entry → Op → List Entry
absorbed entries (Add e) =
    if nat_le most_entries (length (without e.association entries)) then entries
    else without e.association entries ++ e ∷ []
absorbed entries (Remove association) = without association entries

-- the entries after more of them, in turn
abbrev pub set_after : List Entry → List Op → List Entry
set_after entries [] = entries
set_after entries (op ∷ ops) = set_after (absorbed entries op) ops

-- the set of a history
abbrev pub fold_ops : List Op → List Entry
fold_ops ops = set_after [] ops
