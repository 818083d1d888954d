use Rattle.perc_gcm.proofs.Multiples.{Stepped}
use Rattle.perc_gcm.proofs.table.OctetTable.product.Given as goal

abbrev pub invariant-loop-i : goal.invariant-loop-i
invariant-loop-i l = Stepped 8 l.self.whole.h l.element l.rest l.sum l._i
