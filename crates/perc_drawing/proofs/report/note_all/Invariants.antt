use Rattle.std.proofs.Common.{◌≤◌}
use Rattle.perc_drawing.proofs.Reading.{Noted}
use Rattle.perc_drawing.proofs.report.note_all.Given as goal

abbrev pub invariant-loop-number : goal.invariant-loop-number
invariant-loop-number g l = record {
  faults : g.I.Source.fault_count l.initial.input ≤ g.I.Source.fault_count l.input;
  noted : Noted l.number (g.I.Source.left l.initial.input) (g.I.Source.left l.input) l.initial.lines l.lines;
}
