use Rattle.std.proofs.Common.{ℕ, ap, ◌∙◌, ◌*◌, ◌^◌, arith}
use Rattle.std.proofs.lemmas.Nat.{and_mask}
use Rattle.perc_gcm.specs.Field.{product}
use Rattle.perc_gcm.proofs.Multiples.{stepped_first, stepped_more, stepped_last}
use Rattle.perc_gcm.proofs.table.OctetTable.product.Goals as goal

pub loop-i-init : goal.loop-i-init
loop-i-init c = stepped_first 8 c.args.self.now.whole.h c.args.element

pub loop-i-preserved : goal.loop-i-preserved
loop-i-preserved c =
    stepped_more 8 c.args.self.now.whole.h c.args.element c.loop-i.rest c.loop-i.sum c.times_x8.result c.at.result c.loop-i._i
    (omega arith) c.loop-i.invariant c.times_x8.ensures
    (c.at.ensures ∙ ap (λ (n : ℕ). product (n * 2 ^ 120) c.args.self.now.whole.h) (and_mask c.loop-i.rest 8))

pub returns : goal.returns
returns c = stepped_last 8 c.args.self.now.whole.h c.args.element c.loop-i.rest c.loop-i.sum c.loop-i._i (omega arith) (omega arith) c.loop-i.invariant
