-- The turns of a run are those of its lines, one after another.
use Rattle.std.proofs.Common.{◌≡◌, ℕ, zero, suc, ◌+◌, Bool, true, false, cond, List, [], ◌∷◌, Option, Some, None, refl, ap, ◌∙◌, length, arith}
use Rattle.std.specs.Prelude.{nat_lt, ◌==◌}
use Rattle.perc_base.specs.Lines.{lines_of, longest}
use Rattle.perc_script_line.specs.declared.reason.Reason.TheVariants.{Limit, Long}
use Rattle.perc_script_line.specs.Script.{Script, script_of}
use Rattle.perc_report_line.specs.Report.{Report}
use Rattle.perc_run.specs.State.{State, Turn, Goes, Refused, Halts, nobody, last_line}
use Rattle.perc_run.specs.Delivering.{by_cipher}
use Rattle.perc_run.specs.Report.{Run, Stopped, ended, run_behind, turn_at, line_or_nothing, run_from, run_by}
use Rattle.perc_headline.specs.Headline.{AreOfLines}

-- the same turn says the same
same_said : (t u : Script × List Report) → Some t ≡ Some u → t.0 ≡ u.0
same_said t u e = let same : t ≡ u = cc in ap (λ (v : Script × List Report). v.0) same

turn_said : (number : ℕ) (line : List ℕ) (lines : List (List ℕ)) (said : Option Script) (t : Turn) (last long : Bool) (goes_on : State → Run) (s : State)
    → script_of line ≡ said → turn_at by_cipher s said ≡ t → ((next : State) → AreOfLines lines (goes_on next).turns)
    → AreOfLines (line ∷ lines) (cond last (ended (Stopped number Limit)) (cond long (ended (Stopped number Long)) (run_behind number (line_or_nothing said) t goes_on))).turns
turn_said number line lines said t true long goes_on s e is rest k x y at = absurd (grind arith)
turn_said number line lines said t false true goes_on s e is rest k x y at = absurd (grind arith)
turn_said number line lines said (Refused reason) false false goes_on s e is rest k x y at = absurd (grind arith)
turn_said number line lines said (Halts name) false false goes_on s e is rest k x y at = absurd (grind arith)
turn_said number line lines None (Goes told next) false false goes_on s e is rest k x y at = absurd (grind arith)
turn_said number line lines (Some script) (Goes told next) false false goes_on s e is rest zero x y at =
    (line, refl, e ∙ ap Some (same_said (script, told) (x, y) at))
turn_said number line lines (Some script) (Goes told next) false false goes_on s e is rest (suc k) x y at = rest next k x y at

lines_said : (s : State) (number : ℕ) (lines : List (List ℕ)) → AreOfLines lines (run_from by_cipher s number lines).turns
lines_said s number [] = λ k x y at. absurd (grind arith)
lines_said s number (line ∷ lines) =
    turn_said number line lines (script_of line) (turn_at by_cipher s (script_of line)) (number == last_line) (nat_lt longest (length line))
    (λ next. run_from by_cipher next (number + 1) lines) s refl refl (λ next. lines_said next (number + 1) lines)

-- The turns of a script's run are those of its lines.
pub turns_of_lines : (octets : List ℕ) → AreOfLines (lines_of octets) (run_by by_cipher octets).turns
unfolding run_by
turns_of_lines octets = lines_said nobody 1 (lines_of octets)
