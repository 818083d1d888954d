use Rattle.std.proofs.Common.{length}
use Rattle.perc_incoming.proofs.inquiry.+ask_tries.Given as goal

abbrev pub decreases-ask_tries : goal.decreases-ask_tries
decreases-ask_tries l = length l.attempts.now
