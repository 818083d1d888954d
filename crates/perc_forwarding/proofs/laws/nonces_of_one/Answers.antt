use Rattle.perc_forwarding.proofs.Running.{one_worker}
use Rattle.perc_forwarding.proofs.laws.nonces_of_one.Goals as goal

pub returns : goal.returns
returns c = one_worker
