use Rattle.perc_keydist.proofs.CallLaws.{kept_asked, kept_newest, told_on, told_same}
use Rattle.perc_keydist.proofs.admission.grant.Goals as goal

pub returns-in_err-newest-clause-once : goal.returns-in_err-newest-clause-once
returns-in_err-newest-clause-once g c = told_same _ _ c.last.ensures.kept

pub returns-then-newest-key_len-clause-once : goal.returns-then-newest-key_len-clause-once
returns-then-newest-key_len-clause-once g c = told_same _ _ c.last.ensures.kept

pub returns-then-newest-key_len-clause-kept : goal.returns-then-newest-key_len-clause-kept
returns-then-newest-key_len-clause-kept g c =
    kept_newest (g.K.Keeper.lists c.args.keeper.now) (g.K.Keeper.lists c.last.new.self) c.in_ok-newest.field-0 c.in-Some.newest c.last.ensures.kept c.in_ok-newest.ensures.answer c.in-Some.is

pub returns-clause-once : goal.returns-clause-once
returns-clause-once g c = told_on _ (g.K.Keeper.lists c.last.new.self) _ (told_same _ _ c.last.ensures.kept) c.issue.ensures.once

pub returns-clause-kept : goal.returns-clause-kept
returns-clause-kept g c =
    kept_asked (g.K.Keeper.lists c.args.keeper.now) (g.K.Keeper.lists c.last.new.self) (g.K.Keeper.lists c.issue.new.keeper) c.issue.result c.last.ensures.kept c.issue.ensures.kept
