use Rattle.perc_gcm.specs.Field.{product}
use Rattle.perc_gcm.proofs.Multiples.{PairStepped}
use Rattle.perc_gcm.proofs.table.products.Given as goal

abbrev pub invariant-loop-i : goal.invariant-loop-i
invariant-loop-i l =
    PairStepped (product l.once.whole.h l.once.whole.h) l.once.whole.h l.first l.second l.more l.rest l.sum l._i
