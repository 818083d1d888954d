use Rattle.perc_distributor.proofs.Arriving.{arrives}
use Rattle.perc_distributor.proofs.laws.path.Goals as goal

pub returns : goal.returns
returns c = arrives
