-- By what a grant and a datagram change.
use Rattle.perc_receiver.proofs.Calling.{each_call}
use Rattle.perc_receiver.proofs.laws.each_call.Goals as goal

pub returns : goal.returns
returns c = each_call
