-- What is kept stands for something.
use Rattle.perc_contexts.specs.Receiving.{Receiving}
use Rattle.perc_contexts.specs.Kept.{StandsFor}
use Rattle.perc_media_tests.proofs.contexts.add_all.Given as goal

abbrev pub invariant-loop-spi : goal.invariant-loop-spi
invariant-loop-spi g l = (held : Receiving) × StandsFor l.contexts held
