use Rattle.std.proofs.Common.{ℕ, refl, subst}
use Rattle.std.specs.Prelude.{Option, map}
use Rattle.perc_contexts.specs.Kept.{told}
use Rattle.perc_contexts.proofs.ReceivingLaws.{is_place}
use Rattle.perc_window.specs.declared.window.Freshness.TheVariants.{Fresh, Repeated, TooOld}
use Rattle.perc_receiver.specs.Table.{secret_in, secret_of}
use Rattle.perc_incoming.specs.Asking.{IsOpened, body_at}
use Rattle.perc_incoming.proofs.Deciding.{told_by, told_shut}
use Rattle.perc_incoming.proofs.trying.open_try.Goals as goal

pub returns-in_default-clause-answer : goal.returns-in_default-clause-answer
returns-in_default-clause-answer c = λ held ssrc a h stands is_try is.
    let opens = body_at (secret_of (map secret_in c.args.records.now) a.context.spi) a.context.key a.index h c.args.inner.now.octets.now in
    told_shut a opens c.open_body.new.room
    (subst (λ (o : Option ℕ). IsOpened opens o c.open_body.new.room) c.in_default.is (c.open_body.ensures.answer held ssrc a h stands is_try is))

pub fresh-requires : goal.fresh-requires
fresh-requires c =
    let t = c.requires.tried in
    is_place c.args.contexts.now t.0 t.1 (told c.args.carried) c.args.attempt.now t.2 c.args.attempt.now.place t.3 refl t.4

pub returns-in-Fresh-clause-answer : goal.returns-in-Fresh-clause-answer
returns-in-Fresh-clause-answer c = λ held ssrc a h stands is_try is.
    told_by a (body_at (secret_of (map secret_in c.args.records.now) a.context.spi) a.context.key a.index h c.args.inner.now.octets.now) c.in-Some.len c.open_body.new.room Fresh (c.in-Some.ensures.answer held ssrc a h stands is_try is)
    (c.in-Fresh.ensures held ssrc (told c.args.carried) a stands is_try)

pub returns-in-Repeated-clause-answer : goal.returns-in-Repeated-clause-answer
returns-in-Repeated-clause-answer c = λ held ssrc a h stands is_try is.
    told_by a (body_at (secret_of (map secret_in c.args.records.now) a.context.spi) a.context.key a.index h c.args.inner.now.octets.now) c.in-Some.len c.open_body.new.room Repeated (c.in-Some.ensures.answer held ssrc a h stands is_try is)
    (c.in-Repeated.ensures held ssrc (told c.args.carried) a stands is_try)

pub returns-in-TooOld-clause-answer : goal.returns-in-TooOld-clause-answer
returns-in-TooOld-clause-answer c = λ held ssrc a h stands is_try is.
    told_by a (body_at (secret_of (map secret_in c.args.records.now) a.context.spi) a.context.key a.index h c.args.inner.now.octets.now) c.in-Some.len c.open_body.new.room TooOld (c.in-Some.ensures.answer held ssrc a h stands is_try is)
    (c.in-TooOld.ensures held ssrc (told c.args.carried) a stands is_try)
