-- By induction over the calls.
use Rattle.perc_contexts.proofs.LiveLaws.{never_again}
use Rattle.perc_contexts.proofs.laws.never_again.Goals as goal

pub returns : goal.returns
returns c = never_again
