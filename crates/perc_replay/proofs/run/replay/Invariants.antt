use Rattle.std.proofs.Common.{◌≡◌, ◌≤◌, List, ℕ, Some, IfSome}
use Rattle.perc_conference_state.specs.Mirror.{IsRunning}
use Rattle.perc_replay.proofs.Running.{AreBounded, Reaches}
use Rattle.perc_replay.proofs.run.replay.Given as goal

abbrev pub invariant-loop-number : goal.invariant-loop-number
invariant-loop-number g l = record {
  running : IsRunning l.conference;
  bounded : AreBounded l.counts l.conference l.number;
  reads : g.I.Source.fault_count l.initial.input ≤ g.I.Source.fault_count l.input;
  writes : g.O.Sink.fault_count l.initial.out ≤ g.O.Sink.fault_count l.out;
  reaches : IfSome (g.I.Source.left l.initial.input) (λ octets. IfSome (g.O.Sink.written l.initial.out) (λ before.
      (left : List ℕ) × (after : List ℕ) × (g.I.Source.left l.input ≡ Some left) × (g.O.Sink.written l.out ≡ Some after)
      × Reaches octets before l.number l.lines left after l.conference l.counts));
}
