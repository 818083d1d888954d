use Rattle.std.proofs.Common.{sym, subst}
use Rattle.perc_published.specs.Calls.{Call}
use Rattle.perc_station_tests.specs.Batches.{IsHall}
use Rattle.perc_station_tests.proofs.stations.one_station.Goals as goal

pub learn-requires-2-clause-hall : goal.learn-requires-2-clause-hall
learn-requires-2-clause-hall g c =
    subst (λ (call : Call). IsHall c.forward.new.hall.count call c.forward.new.hall.stations.items) (sym c.remove.ensures)
    (c.forward.ensures.hall c.learn.new.publisher.call c.learn.ensures.hall)
