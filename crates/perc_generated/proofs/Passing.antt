-- Lines that aren't refused, one after another, and the run over them.
use Rattle.std.proofs.Common.{◌≡◌, ℕ, zero, suc, ◌+◌, ◌*◌, ◌<◌, ◌≤◌, Bool, true, false, cond, List, [], ◌∷◌, ◌++◌, length, map, Option, Some, None, refl, sym, ap, subst, ◌∙◌, arith}
use Rattle.std.specs.Prelude.{◌%◌, ◌==◌, nat_lt}
use Rattle.byteorder.specs.Endian.{big_bytes}
use Rattle.std.specs.List.{AllByRecursion, flat_map, range_with_len}
use Rattle.std.proofs.lemmas.Bool.{le-ltb, ne_eqb}
use Rattle.std.proofs.lemmas.List.{length-append}
use Rattle.std.proofs.lemmas.Option.{same_Some}
use Rattle.perc_base.specs.Lines.{lines_of, longest}
use Rattle.perc_script_line.specs.Script.{Deliver, Rekey, Script, script_of, script_text}
use Rattle.perc_script_line.specs.declared.reason.Reason.TheVariants.{Limit, Long}
use Rattle.perc_report_line.specs.Report.{Report}
use Rattle.perc_run.specs.State.{Goes, Halts, Refused, State, Turn, last_line, nobody}
use Rattle.perc_run.specs.Delivering.{by_cipher}
use Rattle.perc_run.specs.Report.{Run, Stopped, ended, line_or_nothing, run_behind, run_by, run_from, turn_at}
use Rattle.perc_run.specs.Turn.{turn}
use Rattle.perc_generator.specs.Generator.{made_lines, made_script, opening, rekey_of, repeat_of, roles_of, round_lines}
use Rattle.perc_generated.specs.Ends.{IsNotRefused}
use Rattle.perc_generated.proofs.Reading.{IsLine, OneSpelling, made_is, made_split}

-- The line goes on, and then this is so; or a datagram is foreign at it.
abbrev pub Behind : Turn → (State → Type 0) → Type 0
Behind (Goes lines next) Then = Then next
Behind (Refused reason) Then = ⊥
Behind (Halts name) Then = Unit {0}

-- No line is refused, and behind the last one this is so; or the run ends as foreign before.
abbrev pub Passes : (State → Type 0) → State → List Script → Type 0
Passes P s [] = P s
Passes P s (line ∷ lines) = Behind (turn by_cipher s line) (λ next. Passes P next lines)

pub behind_map : (t : Turn) (P Q : State → Type 0) → ((s : State) → P s → Q s) → Behind t P → Behind t Q
behind_map (Goes lines next) P Q f p = f next p
behind_map (Refused reason) P Q f p = absurd p
behind_map (Halts name) P Q f p = tt

pub passes_more : (P Q : State → Type 0) (s : State) (xs ys : List Script) → Passes P s xs → ((next : State) → P next → Passes Q next ys) → Passes Q s (xs ++ ys)
passes_more P Q s [] ys p f = f s p
passes_more P Q s (x ∷ xs) ys p f =
    behind_map (turn by_cipher s x) (λ next. Passes P next xs) (λ next. Passes Q next (xs ++ ys)) (λ next q. passes_more P Q next xs ys q f) p

-- ---- the run

behind_run : (number : ℕ) (line : Script) (t : Turn) (goes_on : State → Run) → Behind t (λ next. IsNotRefused (goes_on next).end) → IsNotRefused (run_behind number line t goes_on).end
behind_run number line (Goes lines next) goes_on is = is
behind_run number line (Refused reason) goes_on is = absurd is
behind_run number line (Halts name) goes_on is = tt

by_tests : (s : State) (number : ℕ) (line : Script) (goes_on : State → Run) (last long : Bool) (said : Option Script) → last ≡ false → long ≡ false → said ≡ Some line
    → IsNotRefused (run_behind number line (turn by_cipher s line) goes_on).end
    → IsNotRefused (cond last (ended (Stopped number Limit)) (cond long (ended (Stopped number Long)) (run_behind number (line_or_nothing said) (turn_at by_cipher s said) goes_on))).end
by_tests s number line goes_on true long said a b c is = absurd (cc)
by_tests s number line goes_on false true said a b c is = absurd (cc)
by_tests s number line goes_on false false None a b c is = absurd (cc)
by_tests s number line goes_on false false (Some other) a b c is =
    subst (λ (l : Script). IsNotRefused (run_behind number l (turn by_cipher s l) goes_on).end) (sym (same_Some other line c)) is

pub run_passes : (P : State → Type 0) (s : State) (number : ℕ) (lines : List Script) → OneSpelling → AllByRecursion IsLine lines → number + length lines < last_line → Passes P s lines
    → IsNotRefused (run_from by_cipher s number (map script_text lines)).end
run_passes P s number [] one are few p = tt
run_passes P s number (line ∷ lines) one are few p =
    let goes_on : State → Run = λ next. run_from by_cipher next (number + 1) (map script_text lines) in
    let size = are.0.short.size in
    by_tests s number line goes_on (number == last_line) (nat_lt longest (length (script_text line))) (script_of (script_text line)) (ne_eqb number last_line (λ same. omega arith))
    (le-ltb longest (length (script_text line)) size) ((one (script_text line) line).1 (are.0.spells, are.0.said))
    (
    behind_run number line (turn by_cipher s line) goes_on
    (behind_map (turn by_cipher s line) (λ next. Passes P next lines) (λ next. IsNotRefused (goes_on next).end) (λ next q. run_passes P next (number + 1) lines one are.1 (omega arith) q) p)
    )

-- ---- how many lines there are

one_or_none : (b : Bool) (line : Script) → length (cond b (line ∷ []) []) ≤ 1
one_or_none true line = omega arith
one_or_none false line = omega arith

round_few : (r : ℕ) → length (round_lines r) ≤ 6
round_few r =
    let more = length-append (repeat_of r) (rekey_of r) in
    let again = one_or_none (r % 5 == 4) (Deliver (3 * r + 2) (roles_of r).first) in
    let due = one_or_none (r % 30 == 29) (Rekey (roles_of r).speaker (big_bytes 16 (1000 + r))) in
    omega arith

rounds_few : (from count : ℕ) → length (flat_map round_lines (range_with_len from count)) ≤ 6 * count
rounds_few from zero = omega arith
rounds_few from (suc count) =
    let more = length-append (round_lines from) (flat_map round_lines (range_with_len (from + 1) count)) in
    let one = round_few from in
    let rest = rounds_few (from + 1) count in
    omega arith

made_few : (rounds : ℕ) → rounds ≤ 1000 → length (made_lines rounds) ≤ 6005
made_few rounds few =
    let more = length-append opening (flat_map round_lines (range_with_len 0 rounds)) in
    let rest = rounds_few 0 rounds in
    omega arith

-- ---- the script

-- Each round keeps what is so between rounds.
pub record KeepsRounds (IsAt : ℕ → State → Type 0) : Type 0 where
  pub first : Passes (IsAt 0) nobody opening
  pub next : (r : ℕ) (s : State) → r < 1000 → IsAt r s → Passes (IsAt (r + 1)) s (round_lines r)

rounds_pass : (IsAt : ℕ → State → Type 0) (from count : ℕ) (s : State) → KeepsRounds IsAt → from + count ≤ 1000 → IsAt from s
    → Passes (λ next. Unit {0}) s (flat_map round_lines (range_with_len from count))
rounds_pass IsAt from zero s keeps few is = tt
rounds_pass IsAt from (suc count) s keeps few is =
    passes_more (IsAt (from + 1)) (λ next. Unit {0}) s (round_lines from) (flat_map round_lines (range_with_len (from + 1) count)) (keeps.next from s (omega arith) is)
    (λ next at. rounds_pass IsAt (from + 1) count next keeps (omega arith) at)

made_passes : (IsAt : ℕ → State → Type 0) (rounds : ℕ) → KeepsRounds IsAt → rounds ≤ 1000 → Passes (λ next. Unit {0}) nobody (made_lines rounds)
made_passes IsAt rounds keeps few =
    passes_more (IsAt 0) (λ next. Unit {0}) nobody opening (flat_map round_lines (range_with_len 0 rounds)) keeps.first
    (λ next at. rounds_pass IsAt 0 rounds next keeps (omega arith) at)

pub passes_unrefused : (IsAt : ℕ → State → Type 0) (rounds : ℕ) → KeepsRounds IsAt → OneSpelling → rounds ≤ 1000 → IsNotRefused (run_by by_cipher (made_script rounds)).end
unfolding run_by
passes_unrefused IsAt rounds keeps one few =
    let count = made_few rounds few in
    subst (λ (lines : List (List ℕ)). IsNotRefused (run_from by_cipher nobody 1 lines).end) (sym (made_split rounds few))
    (run_passes (λ next. Unit {0}) nobody 1 (made_lines rounds) one (made_is rounds few) (omega arith) (made_passes IsAt rounds keeps few))
