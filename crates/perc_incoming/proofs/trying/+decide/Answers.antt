use Rattle.std.proofs.Common.{Some, subst}
use Rattle.std.specs.Prelude.{map}
use Rattle.perc_contexts.specs.Kept.{told}
use Rattle.perc_receiver.specs.declared.refusal.Refusal.{Refusal}
use Rattle.perc_receiver.specs.Table.{secret_in, secret_of}
use Rattle.perc_receiver.specs.Opener.{by_cipher}
use Rattle.perc_receiver.specs.Receiver.{openings}
use Rattle.perc_incoming.specs.Asking.{IsDecided, body_at, decided_after}
use Rattle.perc_incoming.proofs.Deciding.{first_left, step_fresh, step_shut, step_stale, tried_fresh, tried_shut, tried_stale}
use Rattle.perc_incoming.proofs.trying.+decide.Goals as goal

pub returns-in-Fresh-clause-answer : goal.returns-in-Fresh-clause-answer
returns-in-Fresh-clause-answer t c = λ held ssrc tried h stands are is.
    let secrets = map secret_in c.args.records.now in
    let octets = c.args.inner.now.octets.now in
    let f =
    first_left held.contexts ssrc (told c.args.carried) c.in-Some.first.now c.in-Some.others.now c.args.attempts.now tried c.in-Some.ensures.cases.0 are in
    let opens =
    tried_fresh f.attempt (body_at (secret_of secrets f.attempt.context.spi) f.attempt.context.key f.attempt.index h octets) c.in-Fresh.len c.open_try.new.room
    (c.in-Fresh.ensures.answer held ssrc f.attempt h stands f.is_try is) in
    step_fresh held.contexts ssrc (told c.args.carried) secrets h octets c.args.stale c.in-Some.first.now c.in-Some.others.now tried f c.in-Fresh.len
    c.open_try.new.room opens

pub returns-in-Stale-clause-answer : goal.returns-in-Stale-clause-answer
returns-in-Stale-clause-answer t c = λ held ssrc tried h stands are is.
    let secrets = map secret_in c.args.records.now in
    let octets = c.args.inner.now.octets.now in
    let f =
    first_left held.contexts ssrc (told c.args.carried) c.in-Some.first.now c.in-Some.others.now c.args.attempts.now tried c.in-Some.ensures.cases.0 are in
    let opens =
    tried_stale f.attempt (body_at (secret_of secrets f.attempt.context.spi) f.attempt.context.key f.attempt.index h octets) c.in-Stale.refusal c.open_try.new.room
    (c.in-Stale.ensures.answer held ssrc f.attempt h stands f.is_try is) in
    let later =
    subst
    (λ (e : Refusal). IsDecided held.contexts ssrc (told c.args.carried) (decided_after (Some e) (openings (by_cipher secrets) h octets f.rest)) c.decide.result c.decide.new.room)
    c.unwrap_or-in-Stale.ensures (c.decide.ensures.answer held ssrc f.rest h stands f.are is) in
    step_stale held.contexts ssrc (told c.args.carried) secrets h octets c.args.stale c.in-Some.first.now c.in-Some.others.now tried f c.in-Stale.refusal
    c.decide.result c.decide.new.room opens later

pub returns-in-Shut-clause-answer : goal.returns-in-Shut-clause-answer
returns-in-Shut-clause-answer t c = λ held ssrc tried h stands are is.
    let secrets = map secret_in c.args.records.now in
    let octets = c.args.inner.now.octets.now in
    let f =
    first_left held.contexts ssrc (told c.args.carried) c.in-Some.first.now c.in-Some.others.now c.args.attempts.now tried c.in-Some.ensures.cases.0 are in
    let shut =
    tried_shut f.attempt (body_at (secret_of secrets f.attempt.context.spi) f.attempt.context.key f.attempt.index h octets) c.open_try.new.room
    (c.in-Shut.ensures.answer held ssrc f.attempt h stands f.is_try is) in
    step_shut held.contexts ssrc (told c.args.carried) secrets h octets c.args.stale c.in-Some.first.now c.in-Some.others.now tried f c.decide-in-Shut.result
    c.decide-in-Shut.new.room shut (c.decide-in-Shut.ensures.answer held ssrc f.rest h stands f.are is)
