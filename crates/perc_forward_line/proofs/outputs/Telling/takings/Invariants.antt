use Rattle.perc_forward_line.proofs.Looping.{TakingsSoFar}
use Rattle.perc_forward_line.proofs.outputs.Telling.takings.Given as goal

abbrev pub invariant-loop-taking : goal.invariant-loop-taking
invariant-loop-taking l =
    TakingsSoFar l.self l.taking-index l.initial.datagrams.items l.datagrams.items l.initial.text.items l.text.items l.told l.place
