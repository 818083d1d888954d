use Rattle.perc_forward_line.proofs.Looping.{OutputsSoFar}
use Rattle.perc_forward_line.proofs.outputs.Telling.outputs.Given as goal

abbrev pub invariant-loop-i : goal.invariant-loop-i
invariant-loop-i l =
    OutputsSoFar l.self l.number l.place l.i l.initial.datagrams.items l.datagrams.items l.initial.text.items l.text.items l.told
