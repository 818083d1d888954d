-- By induction over the calls.
use Rattle.perc_sender.proofs.Histories.{any_history}
use Rattle.perc_sender.proofs.laws.any_calls.Goals as goal

pub returns : goal.returns
returns c = any_history
