use Rattle.std.proofs.Common.{Some, subst}
use Rattle.std.specs.Prelude.{map}
use Rattle.perc_contexts.specs.Kept.{told}
use Rattle.perc_receiver.specs.declared.refusal.Refusal.{Refusal}
use Rattle.perc_receiver.specs.Table.{secret_in, secret_of}
use Rattle.perc_receiver.specs.Opener.{by_cipher}
use Rattle.perc_receiver.specs.Receiver.{openings}
use Rattle.perc_incoming.specs.Asking.{IsDecided, body_at, decided_after}
use Rattle.perc_incoming.proofs.Deciding.{first_left, none_left, step_fresh, step_shut, step_stale, tried_fresh, tried_shut, tried_stale}
use Rattle.perc_incoming.proofs.Inquiring.{append_none, append_open, append_shut}
use Rattle.perc_incoming.proofs.inquiry.+ask_tries.Goals as goal

pub returns-in-Fresh-clause-decided : goal.returns-in-Fresh-clause-decided
returns-in-Fresh-clause-decided t c = λ held ssrc tried h stands are is.
    let secrets = map secret_in c.args.records.now in
    let octets = c.args.inner.now.octets.now in
    let f =
    first_left held.contexts ssrc (told c.args.carried) c.in-Some.first.now c.in-Some.others.now c.args.attempts.now tried c.in-Some.ensures.cases.0 are in
    let opens =
    tried_fresh f.attempt (body_at (secret_of secrets f.attempt.context.spi) f.attempt.context.key f.attempt.index h octets) c.in-Fresh.len c.open_try.new.room
    (c.in-Fresh.ensures.answer held ssrc f.attempt h stands f.is_try is) in
    step_fresh held.contexts ssrc (told c.args.carried) secrets h octets c.args.stale c.in-Some.first.now c.in-Some.others.now tried f c.in-Fresh.len
    c.open_try.new.room opens

pub returns-in-Stale-clause-decided : goal.returns-in-Stale-clause-decided
returns-in-Stale-clause-decided t c = λ held ssrc tried h stands are is.
    let secrets = map secret_in c.args.records.now in
    let octets = c.args.inner.now.octets.now in
    let f =
    first_left held.contexts ssrc (told c.args.carried) c.in-Some.first.now c.in-Some.others.now c.args.attempts.now tried c.in-Some.ensures.cases.0 are in
    let opens =
    tried_stale f.attempt (body_at (secret_of secrets f.attempt.context.spi) f.attempt.context.key f.attempt.index h octets) c.in-Stale.refusal c.open_try.new.room
    (c.in-Stale.ensures.answer held ssrc f.attempt h stands f.is_try is) in
    let later =
    subst
    (λ (e : Refusal). IsDecided held.contexts ssrc (told c.args.carried) (decided_after (Some e) (openings (by_cipher secrets) h octets f.rest)) c.ask_tries.result c.ask_tries.new.room)
    c.unwrap_or-in-Stale.ensures (c.ask_tries.ensures.decided held ssrc f.rest h stands f.are is) in
    step_stale held.contexts ssrc (told c.args.carried) secrets h octets c.args.stale c.in-Some.first.now c.in-Some.others.now tried f c.in-Stale.refusal
    c.ask_tries.result c.ask_tries.new.room opens later

pub returns-in-Shut-clause-decided : goal.returns-in-Shut-clause-decided
returns-in-Shut-clause-decided t c = λ held ssrc tried h stands are is.
    let secrets = map secret_in c.args.records.now in
    let octets = c.args.inner.now.octets.now in
    let f =
    first_left held.contexts ssrc (told c.args.carried) c.in-Some.first.now c.in-Some.others.now c.args.attempts.now tried c.in-Some.ensures.cases.0 are in
    let shut =
    tried_shut f.attempt (body_at (secret_of secrets f.attempt.context.spi) f.attempt.context.key f.attempt.index h octets) c.open_try.new.room
    (c.in-Shut.ensures.answer held ssrc f.attempt h stands f.is_try is) in
    step_shut held.contexts ssrc (told c.args.carried) secrets h octets c.args.stale c.in-Some.first.now c.in-Some.others.now tried f c.ask_tries-in-Shut.result
    c.ask_tries-in-Shut.new.room shut (c.ask_tries-in-Shut.ensures.decided held ssrc f.rest h stands f.are is)

pub returns-in-Fresh-clause-appended : goal.returns-in-Fresh-clause-appended
returns-in-Fresh-clause-appended t c = λ held ssrc tried h stands are is.
    let secrets = map secret_in c.args.records.now in
    let octets = c.args.inner.now.octets.now in
    let f =
    first_left held.contexts ssrc (told c.args.carried) c.in-Some.first.now c.in-Some.others.now c.args.attempts.now tried c.in-Some.ensures.cases.0 are in
    let opens =
    tried_fresh f.attempt (body_at (secret_of secrets f.attempt.context.spi) f.attempt.context.key f.attempt.index h octets) c.in-Fresh.len c.open_try.new.room
    (c.in-Fresh.ensures.answer held ssrc f.attempt h stands f.is_try is) in
    append_open secrets h octets tried f.attempt f.rest _ _ _ _ opens.octets f.is opens.opens (c.open_key.ensures held ssrc f.attempt stands f.is_try) c.push.ensures.items
    (c.ask_others.ensures held ssrc f.rest h stands f.are is)

pub returns-in-Stale-clause-appended : goal.returns-in-Stale-clause-appended
returns-in-Stale-clause-appended t c = λ held ssrc tried h stands are is.
    let secrets = map secret_in c.args.records.now in
    let octets = c.args.inner.now.octets.now in
    let f =
    first_left held.contexts ssrc (told c.args.carried) c.in-Some.first.now c.in-Some.others.now c.args.attempts.now tried c.in-Some.ensures.cases.0 are in
    let opens =
    tried_stale f.attempt (body_at (secret_of secrets f.attempt.context.spi) f.attempt.context.key f.attempt.index h octets) c.in-Stale.refusal c.open_try.new.room
    (c.in-Stale.ensures.answer held ssrc f.attempt h stands f.is_try is) in
    append_open secrets h octets tried f.attempt f.rest _ _ _ _ opens.octets f.is opens.opens (c.open_key-in-Stale.ensures held ssrc f.attempt stands f.is_try)
    c.push-in-Stale.ensures.items (c.ask_tries.ensures.appended held ssrc f.rest h stands f.are is)

pub returns-in-Shut-clause-appended : goal.returns-in-Shut-clause-appended
returns-in-Shut-clause-appended t c = λ held ssrc tried h stands are is.
    let secrets = map secret_in c.args.records.now in
    let octets = c.args.inner.now.octets.now in
    let f =
    first_left held.contexts ssrc (told c.args.carried) c.in-Some.first.now c.in-Some.others.now c.args.attempts.now tried c.in-Some.ensures.cases.0 are in
    let shut =
    tried_shut f.attempt (body_at (secret_of secrets f.attempt.context.spi) f.attempt.context.key f.attempt.index h octets) c.open_try.new.room
    (c.in-Shut.ensures.answer held ssrc f.attempt h stands f.is_try is) in
    append_shut secrets h octets tried f.attempt f.rest _ _ f.is shut (c.ask_tries-in-Shut.ensures.appended held ssrc f.rest h stands f.are is)
