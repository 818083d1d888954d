-- What is kept stands for something.
use Rattle.perc_contexts.specs.Receiving.{Receiving}
use Rattle.perc_contexts.specs.Kept.{StandsFor}
use Rattle.perc_media_tests.proofs.contexts.fill.Given as goal

abbrev pub invariant-loop-number : goal.invariant-loop-number
invariant-loop-number g l = (held : Receiving) × StandsFor l.contexts held
