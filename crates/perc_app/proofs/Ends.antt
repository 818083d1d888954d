-- What was written begins a report, however a replay ends.
use Rattle.std.proofs.Common.{◌≡◌, ℕ, List, [], ◌++◌, Option, Some, None, IfSome, sym}
use Rattle.std.specs.List.{AllPairs}
use Rattle.std.proofs.lemmas.List.{append-nil}
use Rattle.perc_base.specs.Lines.{lines_of}
use Rattle.perc_outgoing.specs.History.{AreOtherSeals}
use Rattle.perc_run.specs.State.{nobody}
use Rattle.perc_run.specs.Delivering.{by_cipher, by_table}
use Rattle.perc_run.specs.Report.{run_by}
use Rattle.perc_headline.specs.Headline.{AreOfLines, EndsAtForeign, Headline}
use Rattle.perc_headline.specs.Nonces.{run_seals}
use Rattle.perc_replay.specs.declared.run.ReplayEnd.{ReplayEnd}
use Rattle.perc_replay.specs.declared.run.ReplayEnd.TheVariants.{Done, Script, ReadFault, WriteFault, Foreign, Memory}
use Rattle.perc_replay.specs.Replay.{Ends, IsBeginning, line_feeds, report_of, run_of}
use Rattle.perc_app.specs.Run.{IsTrueReport}
use Rattle.perc_replay.proofs.Beginnings.{lines_begin}

whole : (octets before after : List ℕ) → after ≡ before ++ report_of octets → IsBeginning octets before after
whole octets before after e = record { written = report_of octets; rest = []; report = sym (append-nil (report_of octets)); out = e }

pub beginning_of : (octets before : List ℕ) (end : ReplayEnd) (left : Option (List ℕ)) (after : List ℕ) → Ends octets before end left after → IsBeginning octets before after
beginning_of octets before (Done counts) left after h = whole octets before after h.3
beginning_of octets before (Script line reason) left after h = whole octets before after h.1
beginning_of octets before ReadFault left after h = lines_begin (line_feeds h.read) octets before after h.lines
beginning_of octets before WriteFault left after h = h
beginning_of octets before (Foreign line endpoint) left after h = whole octets before after h.1
beginning_of octets before Memory left after h = lines_begin h.0 octets before after h.1

-- the laws of every report
pub record Laws : Type 0 where
  pub lines : (octets : List ℕ) → AreOfLines (lines_of octets) (run_of octets).turns
  pub headline : (octets : List ℕ) → Headline by_cipher (run_of octets).turns
  pub ideal : (octets : List ℕ) → run_of octets ≡ run_by by_table octets
  pub foreign : (octets : List ℕ) → EndsAtForeign by_cipher (lines_of octets) (run_of octets)
  pub nonces : (octets : List ℕ) → AllPairs AreOtherSeals (run_seals by_cipher nobody (run_of octets).turns)

-- by them, what was written begins a true report
pub true_report : Laws → (all written left now : Option (List ℕ)) (end : ReplayEnd)
    → IfSome all (λ octets. IfSome written (λ before. (after : List ℕ) × (now ≡ Some after) × Ends octets before end left after))
    → IfSome all (λ octets. IfSome written (λ before. (after : List ℕ) × (now ≡ Some after) × IsTrueReport octets before after))
true_report laws None written left now end h = tt
true_report laws (Some octets) None left now end h = tt
true_report laws (Some octets) (Some before) left now end h = (
  h.0,
  h.1,
  record {
    beginning = beginning_of octets before end left h.0 h.2;
    lines = laws.lines octets;
    headline = laws.headline octets;
    ideal = laws.ideal octets;
    foreign = laws.foreign octets;
    nonces = laws.nonces octets;
  },
)
