use Rattle.perc_forwarding.proofs.Sharing.{gives_none, gives_the_same}
use Rattle.perc_forwarding.proofs.laws.any_number_of_workers.Goals as goal

pub returns-clause-owner : goal.returns-clause-owner
returns-clause-owner c = gives_the_same

pub returns-clause-others : goal.returns-clause-others
returns-clause-others c = gives_none
