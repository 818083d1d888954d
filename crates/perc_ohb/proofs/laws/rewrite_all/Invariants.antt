use Rattle.perc_ohb.proofs.RewritingLaws.{Ran}
use Rattle.perc_ohb.proofs.laws.rewrite_all.Given as goal

abbrev pub invariant-loop-change : goal.invariant-loop-change
invariant-loop-change l = Ran l.changes l.change-index l.initial.header l.header l.initial.ohb l.ohb
