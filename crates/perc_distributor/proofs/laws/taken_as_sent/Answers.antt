use Rattle.perc_distributor.proofs.OnTheWay.{taken_as}
use Rattle.perc_distributor.proofs.laws.taken_as_sent.Goals as goal

pub returns : goal.returns
returns c = taken_as
