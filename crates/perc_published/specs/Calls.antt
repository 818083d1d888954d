-- What contracts see of a publisher, a reader and a note: which call of `key_sets` made it, and lists of adds and removals.
use Rattle.std.specs.Prelude.{◌≡◌, ℕ, ◌+◌, Bool, List, [], Result}
use mathlib.Core.List.{IsPrefix}
use Rattle.atomic_table.specs.Seated.{TableId}
use Rattle.perc_keyset.specs.declared.Entry.{Entry}
use Rattle.perc_keyset.specs.declared.Op.{Op}
use Rattle.perc_keyset.specs.declared.Added.{Added}
use Rattle.perc_keyset.specs.declared.AddFault.{AddFault}
use Rattle.perc_keyset.specs.History.{IsHistory}
use Rattle.perc_keyset.specs.Accepting.{add_answer, after_add, is_same}
use Rattle.perc_keyset.specs.Set.{fold_ops}
use Rattle.perc_tunnel.specs.declared.message.MediaKeys.{MediaKeys}
use Rattle.perc_published.specs.Views.{longer}

-- which call of `key_sets` it is of: what that call made, the cell and the tally
pub record Call : Type 0 where
  pub cell : TableId
  pub tally : TableId

-- A publisher: what it has accepted, and what of it is published. The rest is pending.
pub record Publishing : Type 0 where
  pub call : Call
  pub accepted : List Op
  pub published : List Op

-- a publisher that has accepted this
abbrev pub accepting : Publishing → List Op → Publishing
accepting p accepted = record { call = p.call; accepted = accepted; published = p.published }

-- what is answered where these keys are to be added, but for want of memory
abbrev pub answer_to : Publishing → MediaKeys → Result Added AddFault
answer_to p keys = add_answer p.accepted keys.association keys.client keys.server

-- the association is held with exactly these keys, what is pending counted
abbrev pub holds_so : Publishing → MediaKeys → Bool
holds_so p keys = is_same p.accepted keys.association keys.client keys.server

-- the publisher behind an answer
abbrev pub behind_add : Publishing → MediaKeys → Result Added AddFault → Publishing
behind_add p keys answer = accepting p (after_add p.accepted keys.association keys.client keys.server answer)

-- a reader: the list that it saw when it entered last, the longest that it was told of, and how often it has entered
pub record Reading : Type 0 where
  pub call : Call
  pub seen : List Op
  pub told : List Op
  pub enters : ℕ

-- a note: the list that it tells
pub record Telling : Type 0 where
  pub call : Call
  pub tells : List Op

-- a reader that has seen nothing and was told nothing
abbrev pub new_reader : Call → Reading
new_reader call = record { call = call; seen = []; told = []; enters = 0 }

-- The reader has learnt what a note tells. What it was told of then is the longer of this and of what it was told of before,
-- and begins with both.
pub record HasLearnt (r : Reading) (tells : List Op) (s : Reading) : Type 0 where
  pub call : s.call ≡ r.call
  pub seen : s.seen ≡ r.seen
  pub enters : s.enters ≡ r.enters
  pub told : s.told ≡ longer r.told tells
  pub before : IsPrefix r.told s.told
  pub note : IsPrefix tells s.told

-- The reader has entered once more. What it has seen then is a history, in which no outer pair stands twice, and begins with
-- what it had seen and with what it was told of.
pub record HasEntered (r s : Reading) : Type 0 where
  pub call : s.call ≡ r.call
  pub history : IsHistory s.seen
  pub seen : IsPrefix r.seen s.seen
  pub told : IsPrefix r.told s.seen
  pub kept : s.told ≡ r.told
  pub enters : s.enters ≡ r.enters + 1

-- The reader has entered once more, and what is lent is the set of what it then has seen.
pub record LendsSeen (r : Reading) (lent : List Entry) (s : Reading) : Type 0 where
  pub entered : HasEntered r s
  pub set : lent ≡ fold_ops s.seen
