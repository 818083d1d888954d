use Rattle.std.specs.Prelude.{Option, Result, Ok}
use Rattle.std.proofs.Common.{◌≡◌, sym, ap, ◌∙◌}
use Rattle.perc_tunnel.specs.declared.decoder.TunnelFault.{TunnelFault}
use Rattle.perc_tunnel.specs.declared.message.Message.{Message}
use Rattle.perc_key_service.specs.Replies.{keys_told}
use Rattle.perc_key_service.proofs.Reading.{as_ok, is_held, not_none, not_wrong}
use Rattle.perc_key_service.proofs.replies.next_keys.Goals as goal

pub returns-in-Ok-Some-clause-keys : goal.returns-in-Ok-Some-clause-keys
returns-in-Ok-Some-clause-keys c = λ m rest holds.
    let one = is_held m rest c.args.decoder.now c.next.follows.lender-at-none holds c.next.result c.next.follows.holds-at-none c.in-Ok-Some.message (c.in-Ok-Some.is ∙ as_ok c.in-Ok-Some.field-0-is) in
    c.keys_in.ensures ∙ ap keys_told (sym one.0)

pub returns-in-Ok-Some-clause-rest : goal.returns-in-Ok-Some-clause-rest
returns-in-Ok-Some-clause-rest c = λ m rest holds.
    sym (is_held m rest c.args.decoder.now c.next.follows.lender-at-none holds c.next.result c.next.follows.holds-at-none c.in-Ok-Some.message (c.in-Ok-Some.is ∙ as_ok c.in-Ok-Some.field-0-is)).1

pub returns-in-Ok-Some-clause-no_fault : goal.returns-in-Ok-Some-clause-no_fault
returns-in-Ok-Some-clause-no_fault c = λ m rest holds.
    (is_held m rest c.args.decoder.now c.next.follows.lender-at-none holds c.next.result c.next.follows.holds-at-none c.in-Ok-Some.message (c.in-Ok-Some.is ∙ as_ok c.in-Ok-Some.field-0-is)).2

pub returns-in-Ok-None-clause-keys : goal.returns-in-Ok-None-clause-keys
returns-in-Ok-None-clause-keys c = λ m rest holds.
    absurd (not_none m rest c.args.decoder.now c.next.follows.lender-at-none holds c.next.result c.next.follows.holds-at-none (c.in-Ok-None.is ∙ as_ok c.in-Ok-None.field-0-is))

pub returns-in-Ok-None-clause-rest : goal.returns-in-Ok-None-clause-rest
returns-in-Ok-None-clause-rest c = λ m rest holds.
    absurd (not_none m rest c.args.decoder.now c.next.follows.lender-at-none holds c.next.result c.next.follows.holds-at-none (c.in-Ok-None.is ∙ as_ok c.in-Ok-None.field-0-is))

pub returns-in-Ok-None-clause-no_fault : goal.returns-in-Ok-None-clause-no_fault
returns-in-Ok-None-clause-no_fault c = λ m rest holds.
    absurd (not_none m rest c.args.decoder.now c.next.follows.lender-at-none holds c.next.result c.next.follows.holds-at-none (c.in-Ok-None.is ∙ as_ok c.in-Ok-None.field-0-is))

pub returns-in-Err-clause-keys : goal.returns-in-Err-clause-keys
returns-in-Err-clause-keys c = λ m rest holds.
    absurd (not_wrong m rest c.args.decoder.now c.next.follows.lender-at-none holds c.next.result c.next.follows.holds-at-none c.in-Err.field-0 c.in-Err.is)

pub returns-in-Err-clause-rest : goal.returns-in-Err-clause-rest
returns-in-Err-clause-rest c = λ m rest holds.
    absurd (not_wrong m rest c.args.decoder.now c.next.follows.lender-at-none holds c.next.result c.next.follows.holds-at-none c.in-Err.field-0 c.in-Err.is)

pub returns-in-Err-clause-no_fault : goal.returns-in-Err-clause-no_fault
returns-in-Err-clause-no_fault c = λ m rest holds.
    absurd (not_wrong m rest c.args.decoder.now c.next.follows.lender-at-none holds c.next.result c.next.follows.holds-at-none c.in-Err.field-0 c.in-Err.is)
