use Rattle.perc_endpoint.proofs.Running.{accepted_once}
use Rattle.perc_endpoint.proofs.laws.accepted_once.Goals as goal

pub returns : goal.returns
returns c = accepted_once
