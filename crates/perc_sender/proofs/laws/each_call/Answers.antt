-- By the same induction over the calls.
use Rattle.perc_sender.proofs.Histories.{each_done}
use Rattle.perc_sender.proofs.laws.each_call.Goals as goal

pub returns : goal.returns
returns c = each_done
