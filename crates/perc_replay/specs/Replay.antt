-- How `replay` ends, over the octets of a script.
use Rattle.std.specs.List.{flat_map}
use Rattle.std.specs.Prelude.{◌≡◌, ℕ, ◌≤◌, ◌==◌, ◌++◌, List, [], length, take, count_by, Option, Some}
use Rattle.perc_conference_state.specs.Mirror.{is_refuse, is_accept, is_wire}
use Rattle.perc_replay.specs.declared.run.Counts.{Counts}
use Rattle.perc_replay.specs.declared.run.ReplayEnd.TheVariants as end
use Rattle.perc_replay.specs.declared.run.ReplayEnd.{ReplayEnd}
use Rattle.perc_report_line.specs.Report.{Report, report_texts}
use Rattle.perc_run.specs.Delivering.{by_cipher}
use Rattle.perc_run.specs.Report.{Run, Done, Stopped, Foreign, reported, report_by, run_by}
use Rattle.perc_script_line.specs.Script.{Script}

-- the run of a script, and its report: the ciphers judge
abbrev pub run_of : List ℕ → Run
run_of octets = run_by by_cipher octets

abbrev pub report_of : List ℕ → List ℕ
report_of octets = report_by by_cipher octets

-- how many lines a run did, and how many lines of each kind it reported
abbrev pub counts_of : Run → Counts
counts_of run = record {
  lines = length run.turns;
  datagrams = count_by is_wire (reported run);
  accepted = count_by is_accept (reported run);
  refused = count_by is_refuse (reported run);
}

-- what was written is a beginning of the report
pub record IsBeginning (octets before after : List ℕ) : Type 0 where
  pub written : List ℕ
  pub rest : List ℕ
  pub report : report_of octets ≡ written ++ rest
  pub out : after ≡ before ++ written

-- how many of the octets are line feeds
abbrev pub line_feeds : List ℕ → ℕ
line_feeds octets = count_by (λ x. x == 10) octets

-- the octets of the report of the first n lines
abbrev pub report_of_lines : ℕ → List ℕ → List ℕ
report_of_lines n octets = report_texts (flat_map (λ (t : Script × List Report). t.1) (take n (run_of octets).turns))

-- The first n lines of the octets were done, and what was written is their report: all that each of them reported.
pub record IsReportOfLines (n : ℕ) (octets before after : List ℕ) : Type 0 where
  pub done : n ≤ length (run_of octets).turns
  pub out : after ≡ before ++ report_of_lines n octets

-- These octets were read, and what was written is the report of exactly the lines that stand among them whole, each with its line
-- feed.
pub record IsReportOfRead (octets : List ℕ) (left : Option (List ℕ)) (before after : List ℕ) : Type 0 where
  pub read : List ℕ
  pub rest : List ℕ
  pub source : octets ≡ read ++ rest
  pub kept : left ≡ Some rest
  pub lines : IsReportOfLines (line_feeds read) octets before after

-- From a source that has these octets left, and a sink that has written some, this end comes with this left and that written.
abbrev pub Ends : (octets before : List ℕ) → ReplayEnd → (left : Option (List ℕ)) (after : List ℕ) → Type 0
-- all lines were done, and the report is written
Ends octets before (end.Done counts) left after =
    ((run_of octets).end ≡ Done) × (counts ≡ counts_of (run_of octets)) × (left ≡ Some []) × (after ≡ before ++ report_of octets)
-- a line was refused, or a datagram was foreign, and the report of the lines before it is written
Ends octets before (end.Script line reason) left after = ((run_of octets).end ≡ Stopped line reason) × (after ≡ before ++ report_of octets)
Ends octets before (end.Foreign line name) left after = ((run_of octets).end ≡ Foreign line name) × (after ≡ before ++ report_of octets)
-- a read failed, and the report of the lines that were read whole is written
Ends octets before end.ReadFault left after = IsReportOfRead octets left before after
-- a write failed, in the middle of what a line reports it may be
Ends octets before end.WriteFault left after = IsBeginning octets before after
-- no memory was found, and the report of the lines before is written
Ends octets before end.Memory left after = (n : ℕ) × IsReportOfLines n octets before after
