use Rattle.std.proofs.Common.{◌≡◌, ℕ, List, Option, Result, Ok, Err, refl, sym, ap, subst, ◌∙◌}
use Rattle.std.specs.Prelude.{IfOk, map}
use Rattle.std.specs.Option.{option_map}
use Rattle.std.proofs.lemmas.Result.{err_from_is_err_and}
use Rattle.perc_rtp.specs.declared.head.RtpHead.{RtpHead}
use Rattle.perc_contexts.specs.Receiving.{Attempt}
use Rattle.perc_contexts.specs.Kept.{IsCarried}
use Rattle.perc_receiver.specs.declared.refusal.Refusal.{Refusal}
use Rattle.perc_receiver.specs.declared.refusal.Refusal.TheVariants as refusal
use Rattle.perc_incoming.specs.declared.carried.UnwrappedKey.{UnwrappedKey}
use Rattle.perc_receiver.specs.Table.{secret_in}
use Rattle.perc_receiver.specs.Receiver.{OpenTry}
use Rattle.perc_incoming.specs.declared.choosing.Decided.{Decided}
use Rattle.perc_incoming.specs.Asking.{IsCarriedBy, key_of}
use Rattle.perc_incoming.specs.Outcome.{IsDecision}
use Rattle.perc_incoming.specs.Opening.{AreAppended, IsKeyFor, decided_of}
use Rattle.perc_incoming.proofs.Parts.{carried_err, carried_ok, refused_as, taken_as, told_is}
use Rattle.perc_incoming.proofs.Inquiring.{append_none, decided_err, decided_same, decided_short, key_carried, key_short, tries_err, tries_same, tries_short}
use Rattle.perc_incoming.proofs.inquiry.ask_carried.Goals as goal

pub returns-then-inner-lt16-clause-decided : goal.returns-then-inner-lt16-clause-decided
returns-then-inner-lt16-clause-decided c = λ held h x stands is head found.
    subst (λ (d : Result OpenTry Refusal). IsDecision held h.ssrc d (Err refusal.InnerShort) c.args.room.now)
    (sym (decided_short (map secret_in c.args.records.now) held.contexts h c.args.inner.now.octets.now x c.if-inner-lt16.true)) refl

pub returns-then-inner-lt16-clause-appended : goal.returns-then-inner-lt16-clause-appended
returns-then-inner-lt16-clause-appended c = λ held h x stands is head found.
    append_none (map secret_in c.args.records.now) h c.args.inner.now.octets.now _ _ _ (tries_short held.contexts h c.args.inner.now.octets.now x c.if-inner-lt16.true) refl

pub returns-in_err-carried-clause-decided : goal.returns-in_err-carried-clause-decided
returns-in_err-carried-clause-decided c = λ held h x stands is head found.
    let e = c.in_err-carried.field-0.0 in
    let p = err_from_is_err_and c.from_residual.result c.from_residual.ensures.1 in
    let none = carried_err x e (subst (IsCarriedBy x) c.in_err-carried.was found) in
    subst (λ (d : Result OpenTry Refusal). IsDecision held h.ssrc d c.from_residual.result c.args.room.now)
    (sym (decided_err (map secret_in c.args.records.now) held.contexts h c.args.inner.now.octets.now x e c.if-inner-lt16.false none)) (p.1 ∙ ap Err p.2)

pub returns-in_err-carried-clause-appended : goal.returns-in_err-carried-clause-appended
returns-in_err-carried-clause-appended c = λ held h x stands is head found.
    let e = c.in_err-carried.field-0.0 in
    let none = carried_err x e (subst (IsCarriedBy x) c.in_err-carried.was found) in
    append_none (map secret_in c.args.records.now) h c.args.inner.now.octets.now _ _ _
    (tries_err held.contexts h c.args.inner.now.octets.now x e c.if-inner-lt16.false none) refl

pub told_key-key-requires : goal.told_key-key-requires
told_key-key-requires c =
    let ready = subst (λ (r : Result (Option UnwrappedKey) Refusal). IfOk r (IsKeyFor c.args.contexts.now.live)) c.in_ok-carried.was c.requires.key in
    key_short c.args.contexts.now.live c.in_ok-carried.carried ready

pub ask_by-requires-clause-key : goal.ask_by-requires-clause-key
ask_by-requires-clause-key c =
    let key = c.in_ok-carried.carried in
    let ready = subst (λ (r : Result (Option UnwrappedKey) Refusal). IfOk r (IsKeyFor c.args.contexts.now.live)) c.in_ok-carried.was c.requires.key in
    let told = told_is c.as_ref.result c.told_key-key.result key c.as_ref.ensures.value c.told_key-key.ensures.told in
    subst (IsCarried c.args.contexts.now.live) (sym told) (key_carried c.args.contexts.now.live key ready c.told_key-key.ensures.length)

pub returns-in_err-attempt-clause-decided : goal.returns-in_err-attempt-clause-decided
returns-in_err-attempt-clause-decided c = λ held h x stands is head found.
    let secrets = map secret_in c.args.records.now in
    let octets = c.args.inner.now.octets.now in
    let key = c.in_ok-carried.carried in
    let e = c.in_err-attempt.field-0.0 in
    let has = carried_ok x key (subst (IsCarriedBy x) c.in_ok-carried.was found) in
    let told = told_is c.as_ref.result c.told_key-key.result key c.as_ref.ensures.value c.told_key-key.ensures.told in
    let p = err_from_is_err_and c.from_residual-in_err-attempt.result c.from_residual-in_err-attempt.ensures.1 in
    let m =
    decided_same secrets held h octets x key _ c.args.head.now.ssrc c.args.head.now.seq c.if-inner-lt16.false has told (ap (λ (r : RtpHead). r.ssrc) head)
    (ap (λ (r : RtpHead). r.seq) head) (Err e) c.ask_by.new.room (c.in_err-attempt.ensures.decided held h stands is) in
    subst (λ (r : Result Decided Refusal). IsDecision held h.ssrc (decided_of secrets held.contexts h octets x) r c.ask_by.new.room) (sym (p.1 ∙ ap Err p.2))
    (refused_as held h.ssrc (option_map key_of key) _ e c.ask_by.new.room m)

pub returns-in_err-attempt-clause-appended : goal.returns-in_err-attempt-clause-appended
returns-in_err-attempt-clause-appended c = λ held h x stands is head found.
    let secrets = map secret_in c.args.records.now in
    let octets = c.args.inner.now.octets.now in
    let key = c.in_ok-carried.carried in
    let has = carried_ok x key (subst (IsCarriedBy x) c.in_ok-carried.was found) in
    let told = told_is c.as_ref.result c.told_key-key.result key c.as_ref.ensures.value c.told_key-key.ensures.told in
    let tries =
    tries_same secrets held h octets x key _ c.args.head.now.ssrc c.args.head.now.seq c.if-inner-lt16.false has told (ap (λ (r : RtpHead). r.ssrc) head)
    (ap (λ (r : RtpHead). r.seq) head) in
    subst (λ (l : List Attempt). AreAppended secrets h octets l c.args.open_keys.now.items c.ask_by.new.open_keys.items) tries (c.in_err-attempt.ensures.appended held h stands is)

pub returns-clause-decided : goal.returns-clause-decided
returns-clause-decided c = λ held h x stands is head found.
    let secrets = map secret_in c.args.records.now in
    let octets = c.args.inner.now.octets.now in
    let key = c.in_ok-carried.carried in
    let has = carried_ok x key (subst (IsCarriedBy x) c.in_ok-carried.was found) in
    let told = told_is c.as_ref.result c.told_key-key.result key c.as_ref.ensures.value c.told_key-key.ensures.told in
    let ready = subst (λ (r : Result (Option UnwrappedKey) Refusal). IfOk r (IsKeyFor c.args.contexts.now.live)) c.in_ok-carried.was c.requires.key in
    let live = subst (λ (l : List ℕ). IsKeyFor l key) stands.live ready in
    let m =
    decided_same secrets held h octets x key _ c.args.head.now.ssrc c.args.head.now.seq c.if-inner-lt16.false has told (ap (λ (r : RtpHead). r.ssrc) head)
    (ap (λ (r : RtpHead). r.seq) head) (Ok (c.in_ok-attempt.attempt, c.in_ok-attempt.len)) c.ask_by.new.room (c.in_ok-attempt.ensures.decided held h stands is) in
    taken_as held h.ssrc key (decided_of secrets held.contexts h octets x) (c.in_ok-attempt.attempt, c.in_ok-attempt.len) c.ask_by.new.room
    (key_short held.live key live) (key_carried held.live key live c.told_key-key.ensures.length) m

pub returns-clause-appended : goal.returns-clause-appended
returns-clause-appended c = λ held h x stands is head found.
    let secrets = map secret_in c.args.records.now in
    let octets = c.args.inner.now.octets.now in
    let key = c.in_ok-carried.carried in
    let has = carried_ok x key (subst (IsCarriedBy x) c.in_ok-carried.was found) in
    let told = told_is c.as_ref.result c.told_key-key.result key c.as_ref.ensures.value c.told_key-key.ensures.told in
    let tries =
    tries_same secrets held h octets x key _ c.args.head.now.ssrc c.args.head.now.seq c.if-inner-lt16.false has told (ap (λ (r : RtpHead). r.ssrc) head)
    (ap (λ (r : RtpHead). r.seq) head) in
    subst (λ (l : List Attempt). AreAppended secrets h octets l c.args.open_keys.now.items c.ask_by.new.open_keys.items) tries (c.in_ok-attempt.ensures.appended held h stands is)
