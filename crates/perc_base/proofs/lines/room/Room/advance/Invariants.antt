use Rattle.std.proofs.Common.{◌≤◌}
use Rattle.perc_base.specs.Room.{held_in, ReadsOn, reads_left}
use Rattle.perc_base.proofs.lines.room.Room.advance.Given as goal

abbrev pub invariant-turns : goal.invariant-turns
invariant-turns g l = record {
  reads : ReadsOn (held_in l.initial.self) (g.S.Source.left l.initial.from) (held_in l.self) (g.S.Source.left l.from);
  never_falls : g.S.Source.fault_count l.initial.from ≤ g.S.Source.fault_count l.from;
}

abbrev pub decreases-turns : goal.decreases-turns
decreases-turns g l = reads_left (held_in l.self)
