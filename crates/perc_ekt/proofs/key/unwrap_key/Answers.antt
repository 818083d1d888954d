use Rattle.std.proofs.Common.{None, Some, take, refl}
use Rattle.perc_base.specs.Profile.{key_length}
use Rattle.perc_ekt.proofs.Keys.{opened_answer, opened_none, unwrap_refused}
use Rattle.perc_ekt.proofs.key.unwrap_key.Goals as goal

pub returns-in_default-clause-answer : goal.returns-in_default-clause-answer
returns-in_default-clause-answer c =
    let ekt = c.args.ekt.now in
    let cipher = c.args.cipher.now in
    rw (opened_none ekt cipher (key_length c.args.profile) (unwrap_refused c.in_default.field-0 ekt cipher c.in_default.ensures.length c.in_default.ensures.check)) refl

pub returns-in-Some-clause-answer : goal.returns-in-Some-clause-answer
returns-in-Some-clause-answer c =
    let plain = take c.in-Ok.len c.unwrap.new.wrapped in
    opened_answer c.args.ekt.now c.args.cipher.now plain c.key_len.result (key_length c.args.profile) (Some c.in-Some.wrapped) c.key_len.ensures c.in-Ok.ensures.ok c.in-Some.ensures.answer

pub returns-in-None-clause-answer : goal.returns-in-None-clause-answer
returns-in-None-clause-answer c =
    let plain = take c.in-Ok.len c.unwrap.new.wrapped in
    opened_answer c.args.ekt.now c.args.cipher.now plain c.key_len.result (key_length c.args.profile) None c.key_len.ensures c.in-Ok.ensures.ok c.in-None.ensures.answer
