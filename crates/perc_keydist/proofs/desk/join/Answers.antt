use Rattle.std.proofs.Common.{◌≡◌, Option, IfSome, subst, sym, ◌∙◌, refl}
use Rattle.perc_keeper.specs.Lists.{Lists, member_of}
use Rattle.perc_keydist.proofs.CallLaws.{once_found, once_same}
use Rattle.perc_keydist.proofs.Joining.{no_member}
use Rattle.perc_keydist.proofs.desk.join.Goals as goal

pub join_stranger-requires : goal.join_stranger-requires
join_stranger-requires g c = λ l known.
    let found = subst (λ (o : Option Lists). IfSome o (λ l. c.in_ok-keys.field-0 ≡ member_of l.members c.args.association.now)) (sym c.member.ensures.kept ∙ known) c.in_ok-keys.ensures.answer in
    no_member l.members c.args.association.now (sym c.in-None.is ∙ found)

pub returns-in_err-keys-clause-once : goal.returns-in_err-keys-clause-once
returns-in_err-keys-clause-once g c = once_same _ _ _ _ _ c.member.ensures.kept refl

pub returns-in-Some-clause-once : goal.returns-in-Some-clause-once
returns-in-Some-clause-once g c = once_found _ _ _ _ _ _ c.member.ensures.kept c.welcome_again.ensures.once

pub returns-in-None-clause-once : goal.returns-in-None-clause-once
returns-in-None-clause-once g c = once_found _ _ _ _ _ _ c.member.ensures.kept c.join_stranger.ensures.once
