use Rattle.std.proofs.Common.{◌∙◌, arith, rules}
use Rattle.perc_gcm.proofs.Blocks.{running_pair}
use Rattle.perc_gcm.proofs.hash.hash_in_pairs.Goals as goal

pub loop-pair-preserved : goal.loop-pair-preserved
loop-pair-preserved c =
    running_pair c.args.once.now.whole.h c.loop-pair.hash c.products-hash.result c.element.result c.element-in-Some.result c.loop-pair.rest.now c.in-Some.pair.now c.in-Some.behind.now
    c.args.once.now.fits (omega arith) c.element.type_inv (search rules) c.in-Some.ensures.cases.0 c.in-Some.ensures.cases.1 c.element.ensures c.element-in-Some.ensures c.products-hash.ensures
    ∙ c.loop-pair.invariant

pub returns : goal.returns
returns c = c.hash_singly.ensures ∙ c.loop-pair.invariant
