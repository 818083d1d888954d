use Rattle.perc_forwarding.proofs.Owning.{all_workers}
use Rattle.perc_forwarding.proofs.laws.nonces_of_all.Goals as goal

pub returns : goal.returns
returns c = all_workers
