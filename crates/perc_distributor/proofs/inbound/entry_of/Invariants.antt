use Rattle.std.proofs.Common.{◌≡◌, drop}
use Rattle.perc_keyset.specs.Set.{entry_of}
use Rattle.perc_distributor.proofs.inbound.entry_of.Given as goal

abbrev pub invariant-loop-i : goal.invariant-loop-i
invariant-loop-i l = entry_of l.set l.association ≡ entry_of (drop l.i l.set) l.association
