use Rattle.perc_gcm.proofs.Multiples.{Stepped}
use Rattle.perc_gcm.proofs.table.HTable.product.Given as goal

abbrev pub invariant-loop-i : goal.invariant-loop-i
invariant-loop-i l = Stepped 4 l.self.h l.element l.rest l.sum l._i
