-- Lines of a report, as a picture is made of them.
use Rattle.std.specs.Prelude.{◌≡◌, ℕ, ◌+◌, ◌&&◌, Bool, true, false, List, [], ◌∷◌, length, nat_le, is_some, if◌then◌else◌, Option, Some, None, Result, Ok, Err, IfSome}
use Rattle.perc_base.specs.Lines.{Held, lines_before, longest}
use Rattle.perc_report_line.specs.Report.{report_of}
use Rattle.perc_drawing.specs.declared.report.DrawEnd.{DrawEnd}
use Rattle.perc_drawing.specs.declared.report.DrawEnd.TheVariants as end
use Rattle.perc_drawing.specs.declared.report.Stop.{Stop}
use Rattle.perc_drawing.specs.declared.report.Stop.TheVariants as stop

-- a line of a report, of at most 8192 octets
unfoldable pub is_report : List ℕ → Bool
is_report line = nat_le (length line) longest && is_some (report_of line)

-- the number of the first of these lines that is none, where they are numbered from this on
abbrev pub first_other : ℕ → List (List ℕ) → Option ℕ
first_other number [] = None
first_other number (line ∷ lines) = if is_report line then first_other (number + 1) lines else Some number

-- what a stop says of the lines that were to be read: it tells the first that is none, where that is why
abbrev pub TellsStop : List (List ℕ) → Stop → Type 0
TellsStop lines (stop.NotReport number) = first_other 1 lines ≡ Some number
TellsStop lines stop.ReadFault = Unit {0}
TellsStop lines stop.Memory = Unit {0}

-- what an end says of them: where all were read, each is one
abbrev pub Tells : List (List ℕ) → DrawEnd → Type 0
Tells lines end.Done = first_other 1 lines ≡ None
Tells lines end.WriteFault = first_other 1 lines ≡ None
Tells lines (end.Stopped why) = TellsStop lines why

-- the line of this number was noted, or is none
abbrev pub TellsLine : ℕ → List ℕ → Result Bool Stop → Type 0
TellsLine number line (Ok noted) = (noted ≡ true) × (is_some (report_of line) ≡ true)
TellsLine number line (Err (stop.NotReport other)) = (other ≡ number) × (is_some (report_of line) ≡ false)
TellsLine number line (Err stop.ReadFault) = ⊥
TellsLine number line (Err stop.Memory) = ⊥

-- what the call for the next line, of this number, says of the lines before the reader, and which are before it then
abbrev pub TellsNext : ℕ → List (List ℕ) → Result Bool Stop → (later : List (List ℕ)) → Type 0
TellsNext number lines (Ok true) later = first_other number lines ≡ first_other (number + 1) later
TellsNext number lines (Ok false) later = first_other number lines ≡ None
TellsNext number lines (Err (stop.NotReport other)) later = first_other number lines ≡ Some other
TellsNext number lines (Err stop.ReadFault) later = Unit {0}
TellsNext number lines (Err stop.Memory) later = Unit {0}

-- the same of what the reader holds and the source has left, before and after, where that is told
abbrev pub TellsTurn : ℕ → (left later : Option (List ℕ)) → (held now : Held) → Result Bool Stop → Type 0
TellsTurn number left later held now r =
    IfSome left (λ all. (rest : List ℕ) × (later ≡ Some rest) × TellsNext number (lines_before held all) r (lines_before now rest))
