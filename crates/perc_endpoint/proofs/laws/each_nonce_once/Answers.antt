use Rattle.perc_endpoint.proofs.Sealing.{seals_apart}
use Rattle.perc_endpoint.proofs.laws.each_nonce_once.Goals as goal

pub returns : goal.returns
returns c = seals_apart
