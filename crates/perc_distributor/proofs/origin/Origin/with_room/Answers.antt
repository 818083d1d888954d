use Rattle.perc_distributor.specs.Inbound.{nothing_heard}
use Rattle.perc_distributor.proofs.origin.Origin.with_room.Goals as goal

pub invariant_of-result : goal.invariant_of-result
invariant_of-result c = (nothing_heard 0, record { streams = c.in_ok-streams.ensures; rtcp = c.new-3.ensures })
