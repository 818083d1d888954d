use Rattle.perc_forward_line.proofs.Taking.{TakenSoFar}
use Rattle.perc_forward_line.proofs.forwarding.take_each.Given as goal

abbrev pub invariant-loop-number : goal.invariant-loop-number
invariant-loop-number l = TakenSoFar l.fn.distributor l.datagrams l.from l.numbers l.number-index l.distributor
