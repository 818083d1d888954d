use Rattle.std.proofs.Common.{[], refl, subst, Option, ℕ}
use Rattle.std.specs.Prelude.{map}
use Rattle.perc_receiver.specs.Table.{secret_in, secret_of}
use Rattle.perc_incoming.specs.Asking.{IsOpened, body_at}
use Rattle.perc_incoming.proofs.Inquiring.{append_none, append_open, append_shut, open_is, shut_is}
use Rattle.perc_incoming.proofs.inquiry.ask_one.Goals as goal

pub returns-in_default-clause-appended : goal.returns-in_default-clause-appended
returns-in_default-clause-appended c = λ held ssrc a h stands is_try is.
    let secrets = map secret_in c.args.records.now in
    let octets = c.args.inner.now.octets.now in
    let opens = body_at (secret_of secrets a.context.spi) a.context.key a.index h octets in
    let shut =
    shut_is opens c.open_body.new.room (subst (λ (o : Option ℕ). IsOpened opens o c.open_body.new.room) c.in_default.is (c.open_body.ensures.answer held ssrc a h stands is_try is)) in
    append_shut secrets h octets _ a [] _ _ refl shut (append_none secrets h octets [] _ _ refl refl)

pub returns-clause-appended : goal.returns-clause-appended
returns-clause-appended c = λ held ssrc a h stands is_try is.
    let secrets = map secret_in c.args.records.now in
    let octets = c.args.inner.now.octets.now in
    let opens = body_at (secret_of secrets a.context.spi) a.context.key a.index h octets in
    let body = open_is opens _ c.open_body.new.room (c.in-Some.ensures.answer held ssrc a h stands is_try is) in
    append_open secrets h octets _ a [] _ _ _ _ body.0 refl body.1 (c.open_key.ensures held ssrc a stands is_try) c.push.ensures.items
    (append_none secrets h octets [] _ _ refl refl)
