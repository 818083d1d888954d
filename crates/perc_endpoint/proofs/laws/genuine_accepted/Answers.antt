use Rattle.perc_endpoint.proofs.Running.{genuine_accepted}
use Rattle.perc_endpoint.proofs.laws.genuine_accepted.Goals as goal

pub returns : goal.returns
returns c = genuine_accepted
