-- Adds and removals that are asked for, and what is accepted behind them. A call that finds no memory changes nothing, and is none here.
use Rattle.std.specs.Prelude.{ℕ, if◌then◌else◌, List, [], ◌∷◌, ◌++◌}
use Rattle.perc_kdf.specs.Derivation.{KeyAndSalt}
use Rattle.perc_keyset.specs.declared.Op.{Op}
use Rattle.perc_keyset.specs.declared.Op.TheVariants.{Remove}
use Rattle.perc_keyset.specs.Set.{fold_ops, holds}
use Rattle.perc_keyset.specs.Accepting.{add_answer, after_add}

pub data Call : Type 0 where
  AddCall : (association : List ℕ) → (client server : KeyAndSalt) → Call
  RemoveCall : (association : List ℕ) → Call

abbrev pub after_call : List Op → Call → List Op
after_call ops (AddCall association client server) =
    after_add ops association client server (add_answer ops association client server)
after_call ops (RemoveCall association) =
    if holds (fold_ops ops) association then ops ++ Remove association ∷ [] else ops

abbrev pub after_calls : List Op → List Call → List Op
after_calls ops [] = ops
after_calls ops (call ∷ calls) = after_calls (after_call ops call) calls
