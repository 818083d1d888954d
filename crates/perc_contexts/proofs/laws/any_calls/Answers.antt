-- By induction over the calls.
use Rattle.perc_contexts.proofs.Histories.{any_calls}
use Rattle.perc_contexts.proofs.laws.any_calls.Goals as goal

pub returns : goal.returns
returns c = any_calls
