use Rattle.std.proofs.Common.{ℕ, ap, ◌∙◌, arith, bit_and, ◌*◌, ◌^◌}
use Rattle.perc_gcm.specs.Field.{product}
use Rattle.perc_gcm.proofs.Multiples.{pair_first, pair_more, pair_last}
use Rattle.perc_gcm.proofs.table.products.Goals as goal

pub loop-i-init : goal.loop-i-init
loop-i-init c = pair_first _ c.args.once.now.whole.h c.args.first c.args.second

pub loop-i-preserved : goal.loop-i-preserved
loop-i-preserved c =
    pair_more (product c.args.once.now.whole.h c.args.once.now.whole.h) c.args.once.now.whole.h c.args.first c.args.second c.loop-i.more c.loop-i.rest c.loop-i.sum
    c.times_x8.result c.at.result c.at-in-loop-i.result c.loop-i._i (omega arith) c.loop-i.invariant c.times_x8.ensures
    (c.at.ensures ∙ ap (λ (h : ℕ). product (bit_and c.loop-i.more 255 * 2 ^ 120) h) c.requires) c.at-in-loop-i.ensures

pub returns : goal.returns
returns c = pair_last _ c.args.once.now.whole.h c.args.first c.args.second _ _ c.loop-i.sum c.loop-i._i (omega arith) (omega arith) (omega arith) c.loop-i.invariant
