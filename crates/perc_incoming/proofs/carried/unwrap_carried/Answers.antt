use Rattle.std.proofs.Common.{◌≡◌, Option, Some, None, Result, Ok, Err, refl, sym, ap, subst, ◌∙◌}
use Rattle.std.specs.Prelude.{find}
use Rattle.std.proofs.lemmas.List.Elements.{All-contains}
use Rattle.std.proofs.lemmas.Result.{err_from_is_err_and}
use Rattle.perc_contexts.specs.Receiving.{Carried}
use Rattle.perc_contexts.proofs.ReceivingLaws.{found_of}
use Rattle.perc_receiver.specs.declared.refusal.Refusal.{Refusal}
use Rattle.perc_receiver.specs.declared.refusal.Refusal.TheVariants as refusal
use Rattle.perc_incoming.specs.Kept.{IsRecordFor}
use Rattle.perc_incoming.specs.Asking.{IsCarriedBy}
use Rattle.perc_incoming.proofs.Unwrapping.{carried_none, carried_other, carried_refused, carried_same, carried_some, its}
use Rattle.perc_incoming.proofs.carried.unwrap_carried.Goals as goal

pub returns-in_default-clause-answer : goal.returns-in_default-clause-answer
returns-in_default-clause-answer c =
    let none : find (its c.args.spi) c.args.records.now ≡ None = sym c.record_of.ensures ∙ c.in_default.is in
    subst (λ (x : Result (Option Carried) Refusal). IsCarriedBy x (Err (refusal.SpiUnknown c.args.spi))) (sym (carried_none c.args.records.now c.args.ssrc c.args.spi c.args.cipher.now none)) refl

pub unwrap_copy-requires-clause-right : goal.unwrap_copy-requires-clause-right
unwrap_copy-requires-clause-right c =
    let there = found_of (its c.args.spi) c.args.records.now c.in-Some.granted (sym c.in-Some.ensures) in
    All-contains (IsRecordFor c.args.profile) c.args.records.now c.in-Some.granted c.requires.right there.0

pub returns-in_err-wrapped-clause-answer : goal.returns-in_err-wrapped-clause-answer
returns-in_err-wrapped-clause-answer c =
    let p = err_from_is_err_and c.from_residual.result c.from_residual.ensures.1 in
    let some = carried_some c.args.records.now c.args.ssrc c.args.spi c.args.cipher.now c.in-Some.granted (sym c.in-Some.ensures) in
    let refused = carried_refused c.args.spi c.args.ssrc _ c.in_err-wrapped.field-0.0 c.in_err-wrapped.ensures.answer in
    subst (λ (x : Result (Option Carried) Refusal). IsCarriedBy x c.from_residual.result) (sym (some ∙ refused)) (p.1 ∙ ap Err p.2)

pub returns-then-wrapped-ssrc-clause-answer : goal.returns-then-wrapped-ssrc-clause-answer
returns-then-wrapped-ssrc-clause-answer c =
    let some = carried_some c.args.records.now c.args.ssrc c.args.spi c.args.cipher.now c.in-Some.granted (sym c.in-Some.ensures) in
    subst (λ (x : Result (Option Carried) Refusal). IsCarriedBy x (Ok (Some (record { spi = c.args.spi; wrapped = c.in_ok-wrapped.wrapped })))) (sym some)
    (carried_same c.args.spi c.args.ssrc _ c.in_ok-wrapped.wrapped c.in_ok-wrapped.ensures.answer c.if-wrapped-ssrc.true)

pub returns-else-wrapped-ssrc-clause-answer : goal.returns-else-wrapped-ssrc-clause-answer
returns-else-wrapped-ssrc-clause-answer c =
    let some = carried_some c.args.records.now c.args.ssrc c.args.spi c.args.cipher.now c.in-Some.granted (sym c.in-Some.ensures) in
    subst (λ (x : Result (Option Carried) Refusal). IsCarriedBy x (Ok None)) (sym some)
    (carried_other c.args.spi c.args.ssrc _ c.in_ok-wrapped.wrapped c.in_ok-wrapped.ensures.answer c.if-wrapped-ssrc.false)
