-- What is answered, by the adds and removals that it accepted, the oldest first.
use Rattle.std.specs.Prelude.{ℕ, ◌^◌, Bool, false, ◌&&◌, ◌||◌, nat_le, if◌then◌else◌, List, [], ◌∷◌, ◌++◌, length, Option, Some, None, Result, Ok, Err, find}
use Rattle.std.specs.Option.{option_map, option_map_or, option_or}
use Rattle.perc_kdf.specs.Derivation.{KeyAndSalt}
use Rattle.perc_kdf.specs.Order.{same_pair}
use Rattle.perc_keyset.specs.declared.Entry.{Entry}
use Rattle.perc_keyset.specs.declared.Op.{Op}
use Rattle.perc_keyset.specs.declared.Op.TheVariants.{Add}
use Rattle.perc_keyset.specs.declared.Added.{Added}
use Rattle.perc_keyset.specs.declared.Added.TheVariants.{New, Same}
use Rattle.perc_keyset.specs.declared.AddFault.{AddFault}
use Rattle.perc_keyset.specs.declared.AddFault.TheVariants.{KeyReused, SetFull, AddsSpent}
use Rattle.perc_keyset.specs.Set.{fold_ops, entry_of, without, most_entries}
use Rattle.perc_keyset.specs.History.{adds}

-- how many adds are accepted in all
abbrev pub most_adds : ℕ
most_adds = 2 ^ 16

-- an add gave one of these pairs to an association
abbrev pub gave : KeyAndSalt → KeyAndSalt → Entry → Bool
gave client server e = (same_pair e.client client || same_pair e.client server) || (same_pair e.server client || same_pair e.server server)

-- the association whose pair would be used again: that of the earliest add which gave one of them, or this one where its
-- two pairs are equal
abbrev pub reused_by : List Entry → List ℕ → KeyAndSalt → KeyAndSalt → Option (List ℕ)
reused_by added association client server =
    option_or (option_map (λ e. e.association) (find (gave client server) added))
    (if same_pair client server then Some association else None)

-- the association is held with exactly these pairs
abbrev pub is_same : List Op → List ℕ → KeyAndSalt → KeyAndSalt → Bool
is_same ops association client server =
    option_map_or (λ e. same_pair e.client client && same_pair e.server server) (entry_of (fold_ops ops) association) false

-- what is answered where this association is to be added with these pairs, but for want of memory
abbrev pub add_answer : List Op → List ℕ → KeyAndSalt → KeyAndSalt → Result Added AddFault
add_answer ops association client server =
    if is_same ops association client server then Ok Same
    else option_map_or (λ other. Err (KeyReused other)) (reused_by (adds ops) association client server)
    (if nat_le most_entries (length (without association (fold_ops ops))) then Err SetFull
    else (if nat_le most_adds (length (adds ops)) then Err AddsSpent else Ok New))

-- the entry that is added: its serial is the number of adds before
abbrev pub new_entry : List Op → List ℕ → KeyAndSalt → KeyAndSalt → Entry
new_entry ops association client server =
    record { association = association; serial = length (adds ops); client = client; server = server }

-- the accepted adds and removals behind an answer
abbrev pub after_add : List Op → List ℕ → KeyAndSalt → KeyAndSalt → Result Added AddFault → List Op
after_add ops association client server (Ok New) = ops ++ Add (new_entry ops association client server) ∷ []
after_add ops association client server (Ok Same) = ops
after_add ops association client server (Err fault) = ops
