use Rattle.std.proofs.Common.{List, ℕ, refl, ap, ◌∙◌}
use Rattle.std.specs.Option.{option_map}
use Rattle.perc_keydist.specs.Desks.{accepted_at, state_at}
use Rattle.perc_keydist.specs.Wanted.{is_wanted}
use Rattle.perc_keydist.proofs.CallLaws.{once_asked, once_same}
use Rattle.perc_keydist.proofs.Hearing.{joins_heard}
use Rattle.perc_keydist.proofs.desk.Desk.take_record.Goals as goal

pub returns-clause-told : goal.returns-clause-told
returns-clause-told g c = λ a l rs left told known drawn.
    joins_heard a (state_at c.args.self.now l left) rs c.args.association.now c.args.octets.now c.in-Some.accepted.items (accepted_at c.args.self.now) c.in_ok-hello.hello c.join.result
    c.args.out.now.items c.join.new.out.items (g.K.Keeper.lists c.join.new.keeper) (g.R.Randoms.left c.join.new.randoms) refl
    (ap (option_map (λ numbers. numbers.items)) c.in-Some.is) (c.in_ok-hello.ensures.told a told)
    (c.if-not-is_wanted.ensures ∙ ap (λ (xs : List ℕ). is_wanted c.args.self.now.profile xs c.in_ok-hello.hello) c.as_slice.ensures.value)
    (c.join.ensures.told a l rs (c.take.ensures.kept ∙ told) known drawn)

pub returns-in_default-clause-once : goal.returns-in_default-clause-once
returns-in_default-clause-once g c = once_same _ _ _ _ _ refl refl

pub returns-in_err-hello-clause-once : goal.returns-in_err-hello-clause-once
returns-in_err-hello-clause-once g c = once_same _ _ _ _ _ refl refl

pub returns-then-not-is_wanted-clause-once : goal.returns-then-not-is_wanted-clause-once
returns-then-not-is_wanted-clause-once g c = once_same _ _ _ _ _ refl refl

pub returns-clause-once : goal.returns-clause-once
returns-clause-once g c =
    once_asked (g.H.Handshake.answers c.args.hand.now) (g.H.Handshake.answers c.take.new.hand) (g.K.Keeper.lists c.args.keeper.now) (g.K.Keeper.lists c.join.new.keeper) c.args.out.now.items c.join.new.out.items c.take.ensures.kept c.join.ensures.once
