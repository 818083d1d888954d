-- What a publisher, a reader and a note keep.
use Rattle.std.specs.Prelude.{◌≡◌, ℕ, false, true, List, [], length}
use mathlib.Core.List.{IsPrefix}
use Rattle.crossbeam_utils.specs.Seq.{cell_view}
use Rattle.perc_keyset.specs.declared.Entry.{Entry}
use Rattle.perc_keyset.specs.declared.Op.{Op}
use Rattle.perc_keyset.specs.Set.{fold_ops}
use Rattle.perc_published.specs.declared.board.Board.{Board}
use Rattle.perc_published.specs.declared.board.Passes.{Passes}
use Rattle.perc_published.specs.declared.board.View.{View}
use Rattle.perc_published.specs.Views.{first_view, longer}
use Rattle.perc_published.specs.Calls.{Call, Publishing, Reading, Telling}

-- what these passes know, of the cell and of the tally
abbrev pub known : Passes → View
known p = cell_view p.cell

abbrev pub tallied : Passes → View
tallied p = p.tally.me.0

-- the call that made a board, and that whose board these passes are of
abbrev pub call_of : Board → Call
call_of b = record { cell = b.cell.table.shared.table_id; tally = b.tally.shared.table_id }

abbrev pub call_by : Passes → Call
call_by p = record { cell = p.cell.table_id; tally = p.tally.table_id }

-- The tally is the word that it should be.
abbrev pub IsBoard : Board → Type 0
IsBoard b = b.tally.shared.table_id.words ≡ 1

-- This holds of what both passes know.
abbrev pub HasBoth : (View → Type 0) → Passes → Type 0
HasBoth P p = P (known p) × P (tallied p)

-- The board is new: nothing is published, and these passes are those that publish.
pub record IsOpening (b : Board) (p : Passes) : Type 0 where
  pub board : IsBoard b
  pub call : call_by p ≡ call_of b
  pub cell : known p ≡ first_view
  pub tally : tallied p ≡ first_view

-- Passes that know what they knew.
pub record StaysSo (p q : Passes) : Type 0 where
  pub call : call_by q ≡ call_by p
  pub cell : known q ≡ known p
  pub tally : tallied q ≡ tallied p

-- Passes that were cut off from others.
pub record IsSplit (right : View → View) (p part : Passes) : Type 0 where
  pub call : call_by part ≡ call_by p
  pub cell : known part ≡ right (known p)
  pub tally : tallied part ≡ right (tallied p)
  pub free : part.cell.me.1 ≡ []
  pub free_tally : part.tally.me.1 ≡ []

-- What was told is the longer of two lists, and begins with both. The rest is as before.
pub record HasTaken (v : View) (tells : List Op) (w : View) : Type 0 where
  pub seen : w.seen ≡ v.seen
  pub enters : w.enters ≡ v.enters
  pub told : w.told ≡ longer v.told tells
  pub before : IsPrefix v.told w.told
  pub note : IsPrefix tells w.told

abbrev pub telling_of : Passes → Telling
telling_of p = record { call = call_by p; tells = (known p).told }

-- Both passes of a note tell the same.
pub record IsNote (p : Passes) : Type 0 where
  pub publishes : (known p).publishes ≡ false
  pub tallies : (tallied p).publishes ≡ false
  pub told : (tallied p).told ≡ (known p).told

-- A reader's passes are of its board, and both know what it was told of. Its set is that of the list seen.
pub record IsReader (b : Board) (p : Passes) (entries : List Entry) (len : ℕ) : Type 0 where
  pub call : call_by p ≡ call_of b
  pub board : IsBoard b
  pub passes : IsNote p
  pub set : entries ≡ fold_ops (known p).seen
  pub count : len ≡ length (known p).seen

abbrev pub reading_of : Board → Passes → Reading
reading_of b p = record { call = call_of b; seen = (known p).seen; told = (known p).told; enters = (known p).enters }

-- A publisher's passes are of its board, and are those that publish. Both know what was published, which begins what it
-- accepted.
pub record IsPublisher (b : Board) (p : Passes) (accepted : List Op) : Type 0 where
  pub call : call_by p ≡ call_of b
  pub board : IsBoard b
  pub publishes : (known p).publishes ≡ true
  pub tallies : (tallied p).publishes ≡ true
  pub seen : (tallied p).seen ≡ (known p).seen
  pub begins : IsPrefix (known p).seen accepted

abbrev pub publishing_of : Board → Passes → List Op → Publishing
publishing_of b p accepted = record { call = call_of b; accepted = accepted; published = (known p).seen }
