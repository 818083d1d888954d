use Rattle.std.proofs.Common.{◌≡◌, drop}
use Rattle.perc_distributor.specs.Inbound.{in_set}
use Rattle.perc_distributor.proofs.slot.is_in.Given as goal

abbrev pub invariant-loop-i : goal.invariant-loop-i
invariant-loop-i l = in_set l.set l.serial ≡ in_set (drop l.i l.set) l.serial
