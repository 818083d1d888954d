-- By what a renewal and a commit change.
use Rattle.perc_contexts.proofs.Histories.{each_call}
use Rattle.perc_contexts.proofs.laws.each_call.Goals as goal

pub returns : goal.returns
returns c = each_call
