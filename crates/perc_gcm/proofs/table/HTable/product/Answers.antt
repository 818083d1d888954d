use Rattle.std.proofs.Common.{ℕ, List, get_or, bit_and, ap, ◌∙◌, ◌%◌, arith}
use Rattle.std.proofs.lemmas.Nat.{and_mask}
use Rattle.perc_gcm.specs.Table.{Table, multiples}
use Rattle.perc_gcm.proofs.Multiples.{stepped_first, stepped_more, stepped_last, multiple_at}
use Rattle.perc_gcm.proofs.table.HTable.product.Goals as goal

pub loop-i-init : goal.loop-i-init
loop-i-init c = stepped_first 4 c.args.self.now.h c.args.element

pub loop-i-preserved : goal.loop-i-preserved
loop-i-preserved c =
    stepped_more 4 c.args.self.now.h c.args.element c.loop-i.rest c.loop-i.sum c.times_x4.result (get_or c.self.inside.entries (bit_and c.loop-i.rest 15) 0) c.loop-i._i
    (omega arith) c.loop-i.invariant c.times_x4.ensures
    (ap (λ (xs : List ℕ). get_or xs (bit_and c.loop-i.rest 15) 0) (c.self.invariant ∙ ap multiples (ap (λ (t : Table). t.h) c.self.view_is))
    ∙ ap (λ (n : ℕ). get_or (multiples c.args.self.now.h) n 0) (and_mask c.loop-i.rest 4)
    ∙ multiple_at c.args.self.now.h (c.loop-i.rest % 16) (omega arith))

pub returns : goal.returns
returns c = stepped_last 4 c.args.self.now.h c.args.element c.loop-i.rest c.loop-i.sum c.loop-i._i (omega arith) (omega arith) c.loop-i.invariant
