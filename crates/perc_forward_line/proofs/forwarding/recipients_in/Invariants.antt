use Rattle.perc_forward_line.proofs.Choosing.{NamesSoFar}
use Rattle.perc_forward_line.proofs.forwarding.recipients_in.Given as goal

abbrev pub invariant-loop-name : goal.invariant-loop-name
invariant-loop-name l = NamesSoFar l.conference l.initial.name-iterator l.to.items l.name-iterator
