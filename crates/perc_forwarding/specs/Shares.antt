-- What an entry gets from the worker that owns it.
use Rattle.std.specs.Prelude.{◌≡◌, ◌≢◌, ℕ, List, [], ◌∷◌, filter, All}
use Rattle.std.specs.Str.{bytes_eq}
use Rattle.perc_keyset.specs.declared.Entry.{Entry}
use Rattle.perc_distributor.specs.Forwarding.{Dropped, Sealed, Sealing, Sent, sealing_of}

-- for whom an output is
abbrev pub to_of : Sent → List ℕ
to_of (Sealed place to octets) = to
to_of (Dropped place to fault) = to

-- the outputs for an association, in their order
abbrev pub outputs_to : List ℕ → List Sent → List Sent
outputs_to association outputs = filter (λ x. bytes_eq (to_of x) association) outputs

-- Two entries have neither their association nor their serial in common.
pub record AreApart (d e : Entry) : Type 0 where
  pub association : d.association ≢ e.association
  pub serial : d.serial ≢ e.serial

-- No two entries of a set have one in common.
abbrev pub AreOnce : List Entry → Type 0
AreOnce [] = Unit {0}
AreOnce (e ∷ set) = All (AreApart e) set × AreOnce set

-- Two steps give an entry the same outputs, and keep the same of its serial.
pub record GiveTheSame (e : Entry) (one other : List Sent × List Sealing) : Type 0 where
  pub outputs : outputs_to e.association one.0 ≡ outputs_to e.association other.0
  pub sealing : sealing_of one.1 e.serial ≡ sealing_of other.1 e.serial
