-- The report of a script: a fold over its lines.
use Rattle.std.specs.Prelude.{ℕ, ◌+◌, ◌==◌, nat_lt, if◌then◌else◌, List, [], ◌∷◌, length, Option, Some, None}
use Rattle.std.specs.List.{flat_map}
use Rattle.perc_base.specs.Lines.{lines_of, longest}
use Rattle.perc_script_line.specs.Script.{Script, Nothing, script_of}
use Rattle.perc_script_line.specs.declared.reason.Reason.{Reason}
use Rattle.perc_script_line.specs.declared.reason.Reason.TheVariants.{Long, Form, Limit}
use Rattle.perc_report_line.specs.Report.{Report, report_texts}
use Rattle.perc_run.specs.State.{State, Turn, Goes, Refused, Halts, last_line, nobody}
use Rattle.perc_run.specs.Delivering.{Judge}
use Rattle.perc_run.specs.Turn.{turn}

-- How a script ends: all its lines were done; a line was refused; or at a line a datagram was foreign at the member of this name.
pub data End : Type 0 where
  Done : End
  Stopped : (line : ℕ) (reason : Reason) → End
  Foreign : (line : ℕ) (name : List ℕ) → End

-- what the lines did, line by line, and how it ended
pub record Run : Type 0 where
  pub turns : List (Script × List Report)
  pub end : End

abbrev pub ended : End → Run
ended end = record { turns = []; end = end }

-- the run after a line that said this and reported that
abbrev pub after_turn : Script → List Report → Run → Run
after_turn line reported run = record { turns = (line, reported) ∷ run.turns; end = run.end }

-- a line is outside the grammar, or what it does is next
abbrev pub turn_at : Judge → State → Option Script → Turn
turn_at judge s None = Refused Form
turn_at judge s (Some line) = turn judge s line

abbrev pub line_or_nothing : Option Script → Script
line_or_nothing None = Nothing
line_or_nothing (Some line) = line

-- what follows from what line `number` did
abbrev pub run_behind : ℕ → Script → Turn → (State → Run) → Run
run_behind number line (Goes reported next) goes_on = after_turn line reported (goes_on next)
run_behind number line (Refused reason) goes_on = ended (Stopped number reason)
run_behind number line (Halts name) goes_on = ended (Foreign number name)

-- the run over the lines from one number on
abbrev pub run_from : Judge → State → ℕ → List (List ℕ) → Run
run_from judge s number [] = ended Done
run_from judge s number (octets ∷ lines) =
    if number == last_line then ended (Stopped number Limit)
    else (if nat_lt longest (length octets) then ended (Stopped number Long)
    else run_behind number (line_or_nothing (script_of octets)) (turn_at judge s (script_of octets)) (λ next. run_from judge next (number + 1) lines))

-- the run of a script, given by its octets
unfoldable pub run_by : Judge → List ℕ → Run
run_by judge octets = run_from judge nobody 1 (lines_of octets)

-- the lines that were reported
abbrev pub reported : Run → List Report
reported run = flat_map (λ (t : Script × List Report). t.1) run.turns

-- the octets of the report
abbrev pub report_by : Judge → List ℕ → List ℕ
report_by judge octets = report_texts (reported (run_by judge octets))
