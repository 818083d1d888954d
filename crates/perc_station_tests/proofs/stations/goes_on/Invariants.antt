use Rattle.perc_published.specs.Calls.{Call}
use Rattle.perc_station_tests.specs.Batches.{IsHall}
use Rattle.perc_station_tests.proofs.stations.goes_on.Given as goal

abbrev pub invariant-loop-i : goal.invariant-loop-i
invariant-loop-i g l = (call : Call) × IsHall l.hall.count call l.hall.stations.items
