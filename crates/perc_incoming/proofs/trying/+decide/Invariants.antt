use Rattle.std.proofs.Common.{length}
use Rattle.perc_incoming.proofs.trying.+decide.Given as goal

abbrev pub decreases-decide : goal.decreases-decide
decreases-decide l = length l.attempts.now
