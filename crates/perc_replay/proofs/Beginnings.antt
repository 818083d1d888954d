-- The report of the first lines of a script begins its report.
use Rattle.std.proofs.Common.{◌≡◌, ℕ, List, [], ◌∷◌, ◌++◌, take, drop, refl, sym, ap, ◌∙◌}
use Rattle.std.specs.List.{flat_map}
use Rattle.std.proofs.lemmas.List.{append_assoc, take-append-drop}
use Rattle.perc_script_line.specs.Script.{Script}
use Rattle.perc_report_line.specs.Report.{Report, report_text, report_texts}
use Rattle.perc_replay.specs.Replay.{IsBeginning, IsReportOfLines, report_of_lines, run_of}

abbrev pub Turns : Type 0
Turns = List (Script × List Report)

-- what these turns reported
abbrev pub told_by : Turns → List Report
told_by done = flat_map (λ (t : Script × List Report). t.1) done

pub texts_append : (xs ys : List Report) → report_texts (xs ++ ys) ≡ report_texts xs ++ report_texts ys
texts_append [] ys = refl
texts_append (x ∷ xs) ys = ap (λ text. report_text x ++ text) (texts_append xs ys) ∙ sym (append_assoc (report_text x) (report_texts xs) (report_texts ys))

pub told_apart : (xs ys : Turns) → told_by (xs ++ ys) ≡ told_by xs ++ told_by ys
told_apart [] ys = refl
told_apart (t ∷ xs) ys = ap (λ rest. t.1 ++ rest) (told_apart xs ys) ∙ sym (append_assoc t.1 (told_by xs) (told_by ys))

-- what was written begins the report
pub lines_begin : (n : ℕ) (octets before after : List ℕ) → IsReportOfLines n octets before after → IsBeginning octets before after
lines_begin n octets before after h =
    let turns = (run_of octets).turns in
    record {
      written = report_of_lines n octets;
      rest = report_texts (told_by (drop n turns));
      report = ap (λ (x : Turns). report_texts (told_by x)) (sym (take-append-drop n turns)) ∙ ap report_texts (told_apart (take n turns) (drop n turns)) ∙ texts_append (told_by (take n turns)) (told_by (drop n turns));
      out = h.out;
    }
