-- By what the ciphers and the table are asked.
use Rattle.perc_receiver.proofs.Agreeing.{outcome_is_ideal}
use Rattle.perc_receiver.proofs.laws.outcome_is_ideal.Goals as goal

pub returns : goal.returns
returns c = outcome_is_ideal
