use Rattle.perc_stations.proofs.Entered.{as_alone, not_its}
use Rattle.perc_stations.proofs.laws.any_number_of_stations.Goals as goal

pub returns-clause-owner : goal.returns-clause-owner
returns-clause-owner c = as_alone

pub returns-clause-others : goal.returns-clause-others
returns-clause-others c = not_its
