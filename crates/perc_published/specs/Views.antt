-- The rule of what the publisher and the readers share: there is one history of published adds and removals. Whoever
-- publishes has seen all of it, and each list that another has seen or was told of begins it.
use Rattle.std.specs.Prelude.{◌≡◌, ◌⊎◌, ℕ, ◌+◌, nat_lt, true, false, if◌then◌else◌, List, [], ◌∷◌, length, slice_index}
use mathlib.Core.List.{IsPrefix}
use mathlib.Core.Option.{some}
use lib.ListN.{get_elem?}
use Rattle.atomic_table.specs.Table.{State}
use Rattle.perc_keyset.specs.declared.Op.{Op}
use Rattle.perc_keyset.specs.History.{IsHistory}
use Rattle.perc_keyset.specs.Set.{fold_ops}
use Rattle.perc_published.specs.declared.board.View.{View}
use Rattle.perc_published.specs.Words.{set_in}

-- what a view says where this is the history, in which this seat publishes
pub record Begins (seat : ℕ) (history : List Op) (by : ℕ) (v : View) : Type 0 where
  pub publishes : v.publishes ≡ true → (by ≡ seat) × (v.seen ≡ history)
  pub seen : IsPrefix v.seen history
  pub told : IsPrefix v.told history

-- there is one history, of which this is so, and each view is of it
pub record IsOneHistory (Shows : List Op → Type 0) (views : List View) : Type 0 where
  pub seat : ℕ
  pub history : List Op
  pub shows : Shows history
  pub each : (by : ℕ) (v : View) → get_elem? views by ≡ some v → Begins seat history by v

-- The words are those of the set of this history, in which no outer pair stands twice.
pub record Spells (words : List ℕ) (history : List Op) : Type 0 where
  pub legal : IsHistory history
  pub count : slice_index words 0 ≡ length history
  pub set : set_in words ≡ fold_ops history

-- the rule of the cell
abbrev pub KeepsSet : List ℕ → List View → Type 0
KeepsSet words views = IsOneHistory (Spells words) views

-- the rule of the tally: a table of one word, which is the history's length
abbrev pub KeepsTally : State (Unit {0}) View → Type 0
KeepsTally table = IsOneHistory (λ history. table.words ≡ length history ∷ []) table.views

abbrev pub first_view : View
first_view = record { publishes = true; seen = []; told = []; enters = 0 }

abbrev pub newcomer : View
newcomer = record { publishes = false; seen = []; told = []; enters = 0 }

-- what a note knows: it tells what its publisher has published
abbrev pub note_of : View → View
note_of v = record { publishes = false; seen = []; told = v.seen; enters = 0 }

-- behind a publication that leaves this history
abbrev pub published : View → List Op → View
published v history = record { publishes = v.publishes; seen = history; told = v.told; enters = v.enters }

-- A pass that has this view can have another cut off from it: it keeps its view, and what the other knows is so of each
-- history that its own is of.
abbrev pub CanSplit : (View → View) → (View → View) → View → Type 0
CanSplit left right v =
    (left v ≡ v) × ((seat : ℕ) (history : List Op) (by at : ℕ) → Begins seat history by v → Begins seat history at (right v))

-- the longer of two lists
abbrev pub longer : List Op → List Op → List Op
longer xs ys = if nat_lt (length xs) (length ys) then ys else xs

-- a reader behind a note
abbrev pub learnt : View → View → View
learnt v w = record { publishes = v.publishes; seen = v.seen; told = longer v.told w.told; enters = v.enters }

-- a reader that has both what it was told of and what a note tells, to be compared
abbrev pub brought : View → View → View
brought v w = record { publishes = v.publishes; seen = w.told; told = v.told; enters = v.enters }

-- the longer of the two is what it was told of, and it begins with both
pub record Compared (v w : View) : Type 0 where
  pub publishes : w.publishes ≡ v.publishes
  pub told : w.told ≡ longer v.told v.seen
  pub before : IsPrefix v.told (longer v.told v.seen)
  pub note : IsPrefix v.seen (longer v.told v.seen)

-- A reader enters: these words are those of the set of what it has seen afterwards, which begins with what it had seen and
-- with what it was told of.
pub record Entered (v : View) (words : List ℕ) (w : View) : Type 0 where
  pub publishes : w.publishes ≡ v.publishes
  pub spells : Spells words w.seen
  pub seen : IsPrefix v.seen w.seen
  pub told : IsPrefix v.told w.seen
  pub kept : w.told ≡ v.told
  pub counted : w.enters ≡ v.enters + 1

-- one of two lists begins the other
abbrev pub InLine : List Op → List Op → Type 0
InLine xs ys = IsPrefix xs ys ⊎ IsPrefix ys xs

-- one pass has this view
abbrev pub Has : List View → ℕ → View → Type 0
Has views by v = get_elem? views by ≡ some v

-- These views are of this history: each list begins it, and so one of any two begins the other. Who publishes has seen all of
-- it, and is the only one.
pub record AreOf (history : List Op) (views : List View) : Type 0 where
  pub seen : (by : ℕ) (v : View) → Has views by v → IsPrefix v.seen history
  pub told : (by : ℕ) (v : View) → Has views by v → IsPrefix v.told history
  pub published : (by : ℕ) (v : View) → Has views by v → v.publishes ≡ true → v.seen ≡ history
  pub only : (by at : ℕ) (v u : View) → Has views by v → Has views at u → v.publishes ≡ true → u.publishes ≡ true → by ≡ at
  pub in_line : (by at : ℕ) (v u : View) → Has views by v → Has views at u → InLine v.seen u.seen × InLine v.seen u.told × InLine v.told u.told

-- what the rule of the cell says, and that of the tally
abbrev pub SaysOfSet : List ℕ → List View → Type 0
SaysOfSet words views = (history : List Op) × Spells words history × AreOf history views

abbrev pub SaysOfTally : State (Unit {0}) View → Type 0
SaysOfTally table = (history : List Op) × (table.words ≡ length history ∷ []) × AreOf history table.views
