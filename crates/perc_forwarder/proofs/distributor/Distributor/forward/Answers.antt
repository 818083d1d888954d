use Rattle.std.proofs.Common.{arith}
use Rattle.perc_forwarder.proofs.Takings.{batch_few}
use Rattle.perc_forwarder.proofs.distributor.Distributor.forward.Goals as goal

pub forward-requires-clause-few : goal.forward-requires-clause-few
forward-requires-clause-few c = let few = batch_few c.args.self.now c.requires.taken in grind arith
