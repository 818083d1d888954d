use Rattle.std.proofs.Common.{ℕ, List, get_or, sym, ap, ◌∙◌, arith}
use Rattle.std.specs.Int.Bits.{xor_zero_r}
use Rattle.perc_gcm.specs.Table.{multiples}
use Rattle.perc_gcm.proofs.Multiples.{multiples_made, multiple_at}
use Rattle.perc_gcm.proofs.table.HTable.of.Goals as goal

pub invariant_of-result : goal.invariant_of-result
invariant_of-result c =
    multiples_made c.args.h c.times_x-h_x.result c.times_x-h_x2.result c.times_x-h_x3.result (omega arith) c.times_x-h_x.ensures c.times_x-h_x2.ensures c.times_x-h_x3.ensures
    ∙ ap multiples (sym (xor_zero_r c.args.h))

pub returns-clause-element : goal.returns-clause-element
returns-clause-element c = xor_zero_r c.args.h

pub returns-clause-entries : goal.returns-clause-entries
returns-clause-entries c = λ i inside.
    ap (λ (xs : List ℕ). get_or xs i 0)
    (multiples_made c.args.h c.times_x-h_x.result c.times_x-h_x2.result c.times_x-h_x3.result (omega arith) c.times_x-h_x.ensures c.times_x-h_x2.ensures c.times_x-h_x3.ensures)
    ∙ multiple_at c.args.h i inside
