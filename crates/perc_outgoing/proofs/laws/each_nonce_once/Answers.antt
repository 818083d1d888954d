-- By induction over the calls.
use Rattle.perc_outgoing.proofs.Nonces.{seals_apart}
use Rattle.perc_outgoing.proofs.laws.each_nonce_once.Goals as goal

pub returns : goal.returns
returns c = seals_apart
