-- What is kept stands for something.
use Rattle.perc_contexts.specs.Receiving.{Receiving}
use Rattle.perc_contexts.specs.Kept.{StandsFor}
use Rattle.perc_media_tests.proofs.contexts.no_room.Given as goal

abbrev pub invariant-loop-ssrc : goal.invariant-loop-ssrc
invariant-loop-ssrc g l = (held : Receiving) × StandsFor l.contexts held
