use Rattle.std.proofs.Common.{refl, ◌∙◌}
use Rattle.perc_keydist.specs.Desks.{accepted_at, state_at}
use Rattle.perc_keydist.proofs.CallLaws.{told_gone, told_same}
use Rattle.perc_keydist.proofs.Hearing.{is_some_map, left_heard}
use Rattle.perc_keydist.proofs.desk.Desk.end.Goals as goal

pub returns-clause-told : goal.returns-clause-told
returns-clause-told g c = λ a l rs left out known.
    left_heard a (state_at c.args.self.now l left) rs c.args.association.now (accepted_at c.args.self.now) c.leave.result (g.K.Keeper.lists c.args.keeper.now)
    (g.K.Keeper.lists c.leave.new.keeper) out refl (is_some_map (λ numbers. numbers.items) c.args.self.now.accepted ∙ c.if-is_none.ensures) known c.leave.ensures.answer
    c.leave.ensures.gone c.leave.ensures.kinds

pub returns-then-is_none-clause-once : goal.returns-then-is_none-clause-once
returns-then-is_none-clause-once g c = told_same _ _ refl

pub returns-clause-once : goal.returns-clause-once
returns-clause-once g c =
    told_gone (g.K.Keeper.lists c.args.keeper.now) (g.K.Keeper.lists c.leave.new.keeper) c.args.association.now c.leave.result c.leave.ensures.gone c.leave.ensures.refused
