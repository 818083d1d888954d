use Rattle.std.proofs.Common.{None, sym, ◌∙◌, Ok, refl}
use Rattle.std.proofs.lemmas.Result.{err_from_is_err_and}
use Rattle.perc_keydist.specs.Distributing as spec
use Rattle.perc_keydist.proofs.CallLaws.{kept_asked, once_same, once_silent, once_welcomed, told_on, told_same}
use Rattle.perc_keydist.proofs.Joining.{has_room, joined, not_admitted, not_granted, stranger_still, untold, untold_keeping}
use Rattle.perc_keydist.proofs.desk.join_stranger.Goals as goal

pub returns-in_err-count-clause-told : goal.returns-in_err-count-clause-told
returns-in_err-count-clause-told g c = λ a l rs told known left.
    let e = err_from_is_err_and c.from_residual.result c.from_residual.ensures.1 in
    rw (e.1, e.2) (untold (Unit {0}) (spec.join_of a c.args.profile c.args.association.now l rs None) c.in_err-count.field-0.0 c.args.out.now.items (g.K.Keeper.lists c.count_members.new.keeper)
    (g.R.Randoms.left c.args.randoms.now)
    (untold_keeping c.in_err-count.field-0.0 c.in_err-count.ensures.kinds))

pub returns-in_err-granted-clause-told : goal.returns-in_err-granted-clause-told
returns-in_err-granted-clause-told g c = λ a l rs told known left.
    let room = has_room c.in_ok-count.count _ (c.in_ok-count.ensures.told l known) c.if-count-ge-MOST_MEMBERS.false in
    let e = err_from_is_err_and c.from_residual-in_err-granted.result c.from_residual-in_err-granted.ensures.1 in
    rw (e.1, e.2) (not_granted a c.args.profile c.args.association.now l rs room (Unit {0}) c.in_err-granted.field-0.0 c.args.out.now.items (g.K.Keeper.lists c.grant.new.keeper)
    (g.R.Randoms.left c.grant.new.randoms)
    (c.in_err-granted.ensures.told l rs (c.count_members.ensures.kept ∙ known) left))

pub admit-requires : goal.admit-requires
admit-requires g c = stranger_still (g.K.Keeper.lists c.count_members.new.keeper) (g.K.Keeper.lists c.grant.new.keeper) c.args.association.now c.grant.ensures.members
    (λ l known. c.requires l (sym c.count_members.ensures.kept ∙ known))

pub returns-in_err-keys-clause-told : goal.returns-in_err-keys-clause-told
returns-in_err-keys-clause-told g c = λ a l rs told known left.
    let room = has_room c.in_ok-count.count _ (c.in_ok-count.ensures.told l known) c.if-count-ge-MOST_MEMBERS.false in
    let granted = c.in_ok-granted.ensures.told l rs (c.count_members.ensures.kept ∙ known) left in
    let e = err_from_is_err_and c.from_residual-in_err-keys.result c.from_residual-in_err-keys.ensures.1 in
    rw (e.1, e.2) (not_admitted a c.args.profile c.args.association.now l rs room c.in_ok-granted.granted granted.0 (Unit {0}) c.in_err-keys.field-0.0 c.args.out.now.items
    (g.K.Keeper.lists c.admit.new.keeper) (g.R.Randoms.left c.admit.new.randoms)
    (c.in_err-keys.ensures.told (spec.grant c.args.profile l rs).lists (spec.grant c.args.profile l rs).randoms granted.1 granted.2))

pub returns-clause-told : goal.returns-clause-told
returns-clause-told g c = λ a l rs told known left.
    let room = has_room c.in_ok-count.count _ (c.in_ok-count.ensures.told l known) c.if-count-ge-MOST_MEMBERS.false in
    let granted = c.in_ok-granted.ensures.told l rs (c.count_members.ensures.kept ∙ known) left in
    joined a c.args.profile c.args.association.now l rs room c.in_ok-granted.granted granted.0 c.in_ok-keys.keys c.append_welcome.result c.args.out.now.items c.append_welcome.new.out.items
    (g.K.Keeper.lists c.admit.new.keeper) (g.R.Randoms.left c.admit.new.randoms)
    (c.in_ok-keys.ensures.told (spec.grant c.args.profile l rs).lists (spec.grant c.args.profile l rs).randoms granted.1 granted.2)
    (c.append_welcome.ensures.told a told) c.append_welcome.ensures.refused c.append_welcome.ensures.kinds

pub returns-in_err-count-clause-once : goal.returns-in_err-count-clause-once
returns-in_err-count-clause-once g c = once_same _ _ _ _ _ c.count_members.ensures.kept refl

pub returns-then-count-ge-MOST_MEMBERS-clause-once : goal.returns-then-count-ge-MOST_MEMBERS-clause-once
returns-then-count-ge-MOST_MEMBERS-clause-once g c = once_same _ _ _ _ _ c.count_members.ensures.kept refl

pub returns-in_err-granted-clause-once : goal.returns-in_err-granted-clause-once
returns-in_err-granted-clause-once g c =
    let lists = g.K.Keeper.lists c.args.keeper.now in
    let between = g.K.Keeper.lists c.grant.new.keeper in
    let granted = told_on lists (g.K.Keeper.lists c.count_members.new.keeper) between (told_same _ _ c.count_members.ensures.kept) c.grant.ensures.once in
    once_silent _ lists between _ _ granted refl

pub returns-in_err-keys-clause-once : goal.returns-in_err-keys-clause-once
returns-in_err-keys-clause-once g c =
    let lists = g.K.Keeper.lists c.args.keeper.now in
    let between = g.K.Keeper.lists c.grant.new.keeper in
    let granted = told_on lists (g.K.Keeper.lists c.count_members.new.keeper) between (told_same _ _ c.count_members.ensures.kept) c.grant.ensures.once in
    let now = g.K.Keeper.lists c.admit.new.keeper in
    once_silent _ lists now _ _ (told_on lists between now granted c.admit.ensures.once) refl

pub returns-clause-once : goal.returns-clause-once
returns-clause-once g c =
    let lists = g.K.Keeper.lists c.args.keeper.now in
    let between = g.K.Keeper.lists c.grant.new.keeper in
    let granted = told_on lists (g.K.Keeper.lists c.count_members.new.keeper) between (told_same _ _ c.count_members.ensures.kept) c.grant.ensures.once in
    once_welcomed (g.H.Handshake.answers c.args.hand.now) lists between (g.K.Keeper.lists c.admit.new.keeper) c.in_ok-keys.keys c.in_ok-granted.granted c.append_welcome.result
    c.args.out.now.items c.append_welcome.new.out.items granted
    (kept_asked lists (g.K.Keeper.lists c.count_members.new.keeper) between (Ok c.in_ok-granted.granted) c.count_members.ensures.kept c.in_ok-granted.ensures.kept)
    c.admit.ensures.once c.append_welcome.ensures.told c.append_welcome.ensures.refused
