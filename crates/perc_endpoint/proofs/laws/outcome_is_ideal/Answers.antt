use Rattle.perc_endpoint.proofs.Running.{outcome_is_ideal}
use Rattle.perc_endpoint.proofs.laws.outcome_is_ideal.Goals as goal

pub returns : goal.returns
returns c = outcome_is_ideal
