use Rattle.std.proofs.Common.{Ok, Err, refl}
use Rattle.std.proofs.lemmas.Result.{err_from_is_err_and}
use Rattle.perc_keydist.specs.Distributing.{behind_keys, drawn_keys}
use Rattle.perc_keydist.proofs.CallLaws.{told_admitted, told_same}
use Rattle.perc_keydist.proofs.IssuingLaws.{refused_admits}
use Rattle.perc_keydist.proofs.admission.admit.Goals as goal

pub returns-in_err-keep_member-clause-told : goal.returns-in_err-keep_member-clause-told
returns-in_err-keep_member-clause-told g c = λ l rs known left.
    let p = c.args.profile in
    let drew = c.in_ok-keys.ensures.told rs left in
    let e = err_from_is_err_and c.from_residual-in_err-keep_member.result c.from_residual-in_err-keep_member.ensures.1 in
    rw (e.1, e.2) (refused_admits l c.in_ok-keys.keys (drawn_keys p c.args.association.now rs) (behind_keys p rs) (g.R.Randoms.left c.draw_keys.new.randoms) c.in_err-keep_member.field-0.0
    (g.K.Keeper.lists c.keep_member.new.keeper)
    drew.0 drew.1 (c.in_err-keep_member.ensures.told l known))

pub returns-in_err-keys-clause-once : goal.returns-in_err-keys-clause-once
returns-in_err-keys-clause-once g c = told_same _ _ refl

pub returns-in_err-keep_member-clause-once : goal.returns-in_err-keep_member-clause-once
returns-in_err-keep_member-clause-once g c =
    told_admitted {X = Unit {0}} (g.K.Keeper.lists c.args.keeper.now) (g.K.Keeper.lists c.keep_member.new.keeper) c.in_ok-keys.keys (Err c.in_err-keep_member.field-0.0) c.in_err-keep_member.ensures.told

pub returns-clause-once : goal.returns-clause-once
returns-clause-once g c =
    told_admitted {X = Unit {0}} (g.K.Keeper.lists c.args.keeper.now) (g.K.Keeper.lists c.keep_member.new.keeper) c.in_ok-keys.keys (Ok (record {})) c.in_ok-keep_member.ensures.told
