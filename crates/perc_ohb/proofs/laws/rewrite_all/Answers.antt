use Rattle.std.proofs.Common.{arith}
use Rattle.perc_ohb.proofs.RewritingLaws.{ran_none, ran_more}
use Rattle.perc_ohb.proofs.laws.rewrite_all.Goals as goal

pub loop-change-init : goal.loop-change-init
loop-change-init c = ran_none c.args.changes.now c.args.header.now c.args.ohb.now c.requires.reads c.requires.pt

pub loop-change-preserved : goal.loop-change-preserved
loop-change-preserved c =
    ran_more c.args.changes.now c.loop-change.change-index _ c.args.header.now c.loop-change.header c.rewrite.new.header c.args.ohb.now c.loop-change.ohb c.rewrite.new.ohb c.loop-change-test.true
    c.loop-change.invariant (record { header = c.rewrite.ensures.header; block = c.rewrite.ensures.block; restored = c.rewrite.ensures.restored; kept_pt = c.rewrite.ensures.kept_pt })
    (omega arith)
