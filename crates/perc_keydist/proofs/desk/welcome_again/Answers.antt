use Rattle.std.proofs.Common.{◌≡◌, Option, Some, IfSome, subst, sym, ◌∙◌, refl}
use Rattle.std.proofs.lemmas.Result.{err_from_is_err_and}
use Rattle.perc_keeper.specs.Lists.{Lists, newest}
use Rattle.perc_keydist.specs.Distributing.{welcoming_again}
use Rattle.perc_keydist.proofs.CallLaws.{kept_newest, once_same, once_welcomed, told_same}
use Rattle.perc_keydist.proofs.Joining.{again, untold, untold_keeping}
use Rattle.perc_keydist.proofs.desk.welcome_again.Goals as goal

pub returns-in-Some-clause-told : goal.returns-in-Some-clause-told
returns-in-Some-clause-told g c = λ a l rs told known.
    let found = subst (λ (o : Option Lists). IfSome o (λ l. c.in_ok-newest.field-0 ≡ newest l.issued)) known c.in_ok-newest.ensures.answer in
    again a c.args.keys.now l rs c.in-Some.newest c.append_welcome.result c.args.out.now.items c.append_welcome.new.out.items (g.K.Keeper.lists c.newest_record.new.keeper)
    (sym found ∙ c.in-Some.is) (c.newest_record.ensures.same ∙ known) (c.append_welcome.ensures.told a told) c.append_welcome.ensures.refused c.append_welcome.ensures.kinds

pub returns-in_err-newest-clause-told : goal.returns-in_err-newest-clause-told
returns-in_err-newest-clause-told g c = λ a l rs told known.
    let e = err_from_is_err_and c.from_residual.result c.from_residual.ensures.1 in
    rw (e.1, e.2) (untold (Unit {0}) (welcoming_again a c.args.keys.now l rs (newest l.issued)) c.in_err-newest.field-0.0 c.args.out.now.items
    (g.K.Keeper.lists c.newest_record.new.keeper) (Some rs) (untold_keeping c.in_err-newest.field-0.0 c.in_err-newest.ensures.kinds))

pub returns-in_err-newest-clause-once : goal.returns-in_err-newest-clause-once
returns-in_err-newest-clause-once g c = once_same _ _ _ _ _ c.newest_record.ensures.same refl

pub returns-in-None-clause-once : goal.returns-in-None-clause-once
returns-in-None-clause-once g c = once_same _ _ _ _ _ c.newest_record.ensures.same refl

pub returns-in-Some-clause-once : goal.returns-in-Some-clause-once
returns-in-Some-clause-once g c =
    let lists = g.K.Keeper.lists c.args.keeper.now in
    let now = g.K.Keeper.lists c.newest_record.new.keeper in
    once_welcomed (g.H.Handshake.answers c.args.hand.now) lists now now c.args.keys.now c.in-Some.newest c.append_welcome.result c.args.out.now.items c.append_welcome.new.out.items
    (told_same lists now c.newest_record.ensures.same)
    (kept_newest lists now c.in_ok-newest.field-0 c.in-Some.newest c.newest_record.ensures.same c.in_ok-newest.ensures.answer c.in-Some.is)
    (told_same now now refl) c.append_welcome.ensures.told c.append_welcome.ensures.refused
