use Rattle.std.specs.Prelude.{Option, Result, Ok}
use Rattle.std.proofs.Common.{◌≡◌, sym, ap, ◌∙◌}
use Rattle.perc_key_service.specs.Replies.{record_told}
use Rattle.perc_key_service.proofs.Reading.{as_ok, is_held, not_none, not_wrong}
use Rattle.perc_key_service.proofs.replies.next_record.Goals as goal

pub returns-in-Ok-Some : goal.returns-in-Ok-Some
returns-in-Ok-Some c = λ m rest holds.
    let one = is_held m rest c.args.decoder.now c.next.follows.lender-at-none holds c.next.result c.next.follows.holds-at-none c.in-Ok-Some.message (c.in-Ok-Some.is ∙ as_ok c.in-Ok-Some.field-0-is) in
    c.record_in.ensures ∙ ap (record_told c.args.profile) (sym one.0)

pub returns-in-Ok-None : goal.returns-in-Ok-None
returns-in-Ok-None c = λ m rest holds.
    absurd (not_none m rest c.args.decoder.now c.next.follows.lender-at-none holds c.next.result c.next.follows.holds-at-none (c.in-Ok-None.is ∙ as_ok c.in-Ok-None.field-0-is))

pub returns-in-Err : goal.returns-in-Err
returns-in-Err c = λ m rest holds.
    absurd (not_wrong m rest c.args.decoder.now c.next.follows.lender-at-none holds c.next.result c.next.follows.holds-at-none c.in-Err.field-0 c.in-Err.is)
