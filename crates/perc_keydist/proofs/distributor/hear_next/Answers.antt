use Rattle.std.proofs.Common.{◌≡◌, Option, Result, Ok, ap, ◌∙◌, refl}
use Rattle.std.proofs.lemmas.Result.{err_from_is_err_and}
use Rattle.perc_tunnel.specs.declared.decoder.TunnelFault.{TunnelFault}
use Rattle.perc_tunnel.specs.declared.message.Message.{Message}
use Rattle.perc_keydist.proofs.CallLaws.{once_same}
use Rattle.perc_keydist.proofs.Feeding.{next_done, next_failed, next_fewer, next_none, next_wrong, none_part}
use Rattle.perc_keydist.proofs.distributor.hear_next.Goals as goal

as_ok : {x y : Option Message} → x ≡ y → ◌≡◌ {A = Result (Option Message) TunnelFault} (Ok x) (Ok y)
as_ok e = ap (λ (z : Option Message). Ok z) e

pub returns-in_err-has_left-in-Ok-Some-clause-heard : goal.returns-in_err-has_left-in-Ok-Some-clause-heard
returns-in_err-has_left-in-Ok-Some-clause-heard g c =
    let e = err_from_is_err_and c.from_residual.result c.from_residual.ensures.1 in
    rw (e.1, e.2) (next_failed c.args.decoder.now c.next.follows.lender-at-none c.next.result c.next.follows.holds-at-none c.in-Ok-Some.message (c.in-Ok-Some.is ∙ as_ok c.in-Ok-Some.field-0-is)
    c.args.desk.now c.hear.new.self c.in_err-has_left-in-Ok-Some.field-0.0 _ _ _ _ _ _ _ c.in_err-has_left-in-Ok-Some.ensures.kinds c.in_err-has_left-in-Ok-Some.ensures.refused
    c.in_err-has_left-in-Ok-Some.ensures.told)

pub returns-in_ok-has_left-in-Ok-Some-clause-heard : goal.returns-in_ok-has_left-in-Ok-Some-clause-heard
returns-in_ok-has_left-in-Ok-Some-clause-heard g c =
    next_done c.args.decoder.now c.next.follows.lender-at-none c.next.result c.next.follows.holds-at-none c.in-Ok-Some.message (c.in-Ok-Some.is ∙ as_ok c.in-Ok-Some.field-0-is)
    c.args.desk.now c.hear.new.self c.in_ok-has_left-in-Ok-Some.has_left _ _ _ _ _ _ _ c.in_ok-has_left-in-Ok-Some.ensures.told

pub returns-in_ok-has_left-in-Ok-Some-clause-fewer : goal.returns-in_ok-has_left-in-Ok-Some-clause-fewer
returns-in_ok-has_left-in-Ok-Some-clause-fewer g c =
    next_fewer c.args.decoder.now c.next.follows.lender-at-none c.next.result c.next.follows.holds-at-none c.in-Ok-Some.message (c.in-Ok-Some.is ∙ as_ok c.in-Ok-Some.field-0-is)

pub returns-in-Ok-None-clause-heard : goal.returns-in-Ok-None-clause-heard
returns-in-Ok-None-clause-heard g c =
    next_none c.args.decoder.now c.next.follows.lender-at-none c.next.result c.next.follows.holds-at-none (c.in-Ok-None.is ∙ as_ok c.in-Ok-None.field-0-is)
    c.args.desk.now _ _ _ _

pub returns-in-Ok-None-clause-part : goal.returns-in-Ok-None-clause-part
returns-in-Ok-None-clause-part g c = λ _.
    none_part c.args.decoder.now c.next.follows.lender-at-none c.next.result c.next.follows.holds-at-none (c.in-Ok-None.is ∙ as_ok c.in-Ok-None.field-0-is)

pub returns-in-Err-clause-heard : goal.returns-in-Err-clause-heard
returns-in-Err-clause-heard g c =
    next_wrong c.args.decoder.now c.next.follows.lender-at-none c.next.result c.next.follows.holds-at-none c.in-Err.fault c.in-Err.is c.requires
    c.args.desk.now _ _ _ _

pub returns-in-Ok-None-clause-once : goal.returns-in-Ok-None-clause-once
returns-in-Ok-None-clause-once g c = once_same _ _ _ _ _ refl refl

pub returns-in-Err-clause-once : goal.returns-in-Err-clause-once
returns-in-Err-clause-once g c = once_same _ _ _ _ _ refl refl
