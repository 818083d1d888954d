use Rattle.std.proofs.Common.{length}
use Rattle.perc_incoming.proofs.inquiry.+ask_others.Given as goal

abbrev pub decreases-ask_others : goal.decreases-ask_others
decreases-ask_others l = length l.attempts.now
