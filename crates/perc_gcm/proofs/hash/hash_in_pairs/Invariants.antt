use Rattle.std.proofs.Common.{◌≡◌, length}
use Rattle.perc_gcm.specs.Gcm.{blocks}
use Rattle.perc_gcm.specs.Running.{running}
use Rattle.perc_gcm.proofs.hash.hash_in_pairs.Given as goal

abbrev pub invariant-loop-pair : goal.invariant-loop-pair
invariant-loop-pair l =
    running l.once.whole.h l.hash (blocks l.rest) ≡ running l.once.whole.h l.fn.hash (blocks l.octets)

abbrev pub decreases-loop-pair : goal.decreases-loop-pair
decreases-loop-pair l = length l.rest
