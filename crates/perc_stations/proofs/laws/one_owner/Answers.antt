use Rattle.perc_stations.proofs.Entered.{owner}
use Rattle.perc_stations.proofs.laws.one_owner.Goals as goal

pub returns : goal.returns
returns c = owner
