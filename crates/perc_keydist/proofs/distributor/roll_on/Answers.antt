use Rattle.std.proofs.Common.{◌∙◌, refl}
use Rattle.perc_keydist.specs.Distributing.{issue}
use Rattle.perc_keydist.proofs.CallLaws.{once_renewed, once_silent, told_on, told_same}
use Rattle.perc_keydist.proofs.Rolling.{rolled_done}
use Rattle.perc_keydist.proofs.distributor.roll_on.Goals as goal

pub returns-clause-told : goal.returns-clause-told
returns-clause-told g c = λ a s drawn profile told known left.
    let p = c.args.profile in
    let gives = c.in_ok-granted.ensures.told s.lists drawn known left in
    rolled_done a s p drawn c.in_ok-granted.granted c.as_slice.result.now c.args.out.now.items c.send_renewals.new.out.items (g.K.Keeper.lists c.issue.new.keeper)
    (g.K.Keeper.lists c.member_names.new.keeper)
    (g.R.Randoms.left c.issue.new.randoms) gives c.member_names.ensures.kept (c.as_slice.ensures.value ∙ c.in_ok-names.ensures.told (issue p s.lists drawn).lists gives.1)
    (c.in_ok-send_renewals.ensures.told a told)

pub returns-in_err-granted-clause-once : goal.returns-in_err-granted-clause-once
returns-in_err-granted-clause-once g c = once_silent _ _ _ _ _ c.issue.ensures.once refl

pub returns-in_err-names-clause-once : goal.returns-in_err-names-clause-once
returns-in_err-names-clause-once g c = once_silent _ _ _ _ _ (told_on _ _ _ c.issue.ensures.once (told_same _ _ c.member_names.ensures.kept)) refl

pub returns-in_err-send_renewals-clause-once : goal.returns-in_err-send_renewals-clause-once
returns-in_err-send_renewals-clause-once g c =
    once_silent _ _ _ _ _ (told_on _ _ _ c.issue.ensures.once (told_same _ _ c.member_names.ensures.kept)) c.in_err-send_renewals.ensures.refused

pub returns-clause-once : goal.returns-clause-once
returns-clause-once g c =
    once_renewed (g.H.Handshake.answers c.args.hand.now) (g.K.Keeper.lists c.args.keeper.now) (g.K.Keeper.lists c.issue.new.keeper) (g.K.Keeper.lists c.member_names.new.keeper)
    c.in_ok-granted.granted c.as_slice.result.now c.args.out.now.items c.send_renewals.new.out.items c.issue.ensures.once c.in_ok-granted.ensures.kept c.member_names.ensures.kept
    c.in_ok-send_renewals.ensures.told
