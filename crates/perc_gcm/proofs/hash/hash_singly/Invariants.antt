use Rattle.std.proofs.Common.{◌≡◌, length}
use Rattle.perc_gcm.specs.Gcm.{blocks}
use Rattle.perc_gcm.specs.Running.{running}
use Rattle.perc_gcm.proofs.hash.hash_singly.Given as goal

abbrev pub invariant-loop-block : goal.invariant-loop-block
invariant-loop-block l =
    running l.table.whole.h l.hash (blocks l.rest) ≡ running l.table.whole.h l.fn.hash (blocks l.octets)

abbrev pub decreases-loop-block : goal.decreases-loop-block
decreases-loop-block l = length l.rest
