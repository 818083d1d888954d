-- By induction over the calls.
use Rattle.perc_receiver.proofs.Once.{accepted_once}
use Rattle.perc_receiver.proofs.laws.accepted_once.Goals as goal

pub returns : goal.returns
returns c = accepted_once
