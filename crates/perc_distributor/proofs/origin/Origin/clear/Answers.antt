use Rattle.perc_distributor.specs.Inbound.{nothing_heard}
use Rattle.perc_distributor.proofs.origin.Origin.clear.Goals as goal

pub invariant_of-self : goal.invariant_of-self
invariant_of-self c = (nothing_heard 0, record { streams = c.clear.ensures; rtcp = c.new-self-inside.ensures })
