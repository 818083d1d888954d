use Rattle.std.proofs.Common.{◌≡◌, length}
use Rattle.perc_distributor.proofs.HearingLaws.{AreFree}
use Rattle.perc_distributor.proofs.inbound.Inbound.new.Given as goal

abbrev pub invariant-loop : goal.invariant-loop
invariant-loop l = record {
  size : length l.origins.items ≡ l.counter;
  free : AreFree l.origins.items;
}
