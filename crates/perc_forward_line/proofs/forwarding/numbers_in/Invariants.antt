use Rattle.perc_forward_line.proofs.Choosing.{NumbersSoFar}
use Rattle.perc_forward_line.proofs.forwarding.numbers_in.Given as goal

abbrev pub invariant-loop-number : goal.invariant-loop-number
invariant-loop-number l = NumbersSoFar l.conference l.fn.list l.numbers.items l.number-iterator
