use Rattle.std.proofs.Common.{ℕ, ap, refl, sym, ◌∙◌, arith, length, rules}
use Rattle.std.proofs.lemmas.Bool.{eqb-true}
use Rattle.perc_gcm.specs.Gcm.{element}
use Rattle.perc_gcm.specs.Field.{add, product}
use Rattle.perc_gcm.proofs.Blocks.{running_first, running_none, running_rest}
use Rattle.perc_gcm.proofs.hash.hash_singly.Goals as goal

pub loop-block-preserved : goal.loop-block-preserved
unfolding element
loop-block-preserved c =
    running_first c.args.table.now.whole.h c.loop-block.hash c.product-hash.result c.from_be_bytes.result c.loop-block.rest.now c.in-Some.block.now c.in-Some.behind.now
    (omega (arith, c.in-Some.ensures.variant.0 refl)) c.in-Some.ensures.cases.0 c.in-Some.ensures.cases.1 c.from_be_bytes.ensures c.product-hash.ensures
    ∙ c.loop-block.invariant

pub returns-then-is_empty : goal.returns-then-is_empty
returns-then-is_empty c =
    sym (running_none c.args.table.now.whole.h c.loop-block.hash c.loop-block.rest.now (eqb-true (length c.loop-block.rest.now) 0 (sym c.is_empty.ensures ∙ c.if-is_empty.true))) ∙ c.loop-block.invariant

pub returns : goal.returns
returns c =
    c.product.ensures
    ∙ ap (λ (x : ℕ). product (add c.loop-block.hash x) c.args.table.now.whole.h) c.element.ensures
    ∙ running_rest c.args.table.now.whole.h c.loop-block.hash c.loop-block.rest.now (search rules) (search rules)
    ∙ c.loop-block.invariant
