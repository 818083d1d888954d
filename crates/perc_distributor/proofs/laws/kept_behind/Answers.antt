use Rattle.perc_distributor.proofs.HearingLaws.{kept_of_set, unchanged}
use Rattle.perc_distributor.proofs.laws.kept_behind.Goals as goal

pub returns-clause-unchanged : goal.returns-clause-unchanged
returns-clause-unchanged c = unchanged

pub returns-clause-of_set : goal.returns-clause-of_set
returns-clause-of_set c = kept_of_set
