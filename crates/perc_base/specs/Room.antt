-- The room in which a reader of lines holds octets, and its steps.
use Rattle.std.specs.Prelude.{◌≡◌, ◌≢◌, ℕ, ◌+◌, ◌-◌, ◌≤◌, ◌⊎◌, true, if◌then◌else◌, List, [], ◌∷◌, ◌++◌, length, slice_range, Option, Result, Ok, Err, Contains, IfSome}
use Rattle.perc_base.specs.declared.outside.Failed.{Failed}
use Rattle.perc_base.specs.declared.lines.room.Room.{Room}
use Rattle.perc_base.specs.declared.lines.room.Turn.{Turn}
use Rattle.perc_base.specs.declared.lines.room.Turn.TheVariants as turn
use Rattle.perc_base.specs.Outside.{Reads}
use Rattle.perc_base.specs.Lines.{Held, Found, Line, Long, End, IsDecided, longest}

-- what a room holds
abbrev pub held_in : Room → Held
held_in room = record { octets = slice_range room.octets.items room.start room.end; ended = room.ended }

-- the line that was given last
abbrev pub line_in : Room → List ℕ
line_in room = slice_range room.octets.items room.line_start room.line_end

-- what a step found
abbrev pub turned : List ℕ → Turn → Found
turned line turn.Line = Line line
turned line turn.Long = Long
turned line turn.End = End

abbrev pub turned_result : List ℕ → Result Turn Failed → Result Found Failed
turned_result line (Ok t) = Ok (turned line t)
turned_result line (Err e) = Err e

-- What is held decides this answer, and that is held after it.
abbrev pub Decides : Held → Found → Held → Type 0
Decides held (Line octets) new =
    (length octets ≤ longest) × (Contains octets 10 → ⊥) × (new.ended ≡ held.ended)
    × ((held.octets ≡ octets ++ 10 ∷ new.octets)
    ⊎ ((held.octets ≡ octets) × (octets ≢ []) × (new.octets ≡ []) × (held.ended ≡ true)))
Decides held Long new = (new ≡ held) × (length held.octets ≡ longest + 1) × (Contains held.octets 10 → ⊥)
Decides held End new = (new ≡ held) × (held.octets ≡ []) × (held.ended ≡ true)

-- Reads appended these octets to what is held, or saw the end.
pub record ReadsOn (old : Held) (all : Option (List ℕ)) (new : Held) (left : Option (List ℕ)) : Type 0 where
  pub more : List ℕ
  pub reads : Reads all left more
  pub octets : new.octets ≡ old.octets ++ more
  pub ended : new.ended ≡ true → (old.ended ≡ true) ⊎ IfSome left (λ rest. rest ≡ [])
  pub decided : IsDecided old → (more ≡ []) × (new ≡ old)

-- how often the room can still be read into: by each octet that it has room for, and for the end
abbrev pub reads_left : Held → ℕ
reads_left held = 8193 - length held.octets + (if held.ended then 0 else 1)
