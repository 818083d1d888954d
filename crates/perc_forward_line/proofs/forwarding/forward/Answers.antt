use Rattle.std.proofs.Common.{◌≡◌, ◌+◌, ◌*◌, ◌<◌, ◌≤◌, ◌⊎◌, List, ℕ, length, Some, Option, inl, inr, refl, sym, ap, subst, ◌∙◌, arith, slice_get}
use Rattle.std.proofs.lemmas.Option.{slice_get_read, slice_get_within}
use Rattle.std.proofs.lemmas.Result.{err_from_is_err_and}
use Rattle.perc_ohb.specs.Rewriting.{Rewrite, rewrite_of}
use Rattle.perc_run.specs.Forwarding.{forwarded}
use Rattle.perc_conference_state.specs.declared.conference.Stop.TheVariants as stop
use Rattle.perc_script_line.specs.View.{changes_said}
use Rattle.perc_script_line.specs.declared.reason.Reason.TheVariants as reason
use Rattle.perc_forward_line.specs.Telling.{AreThere, names_in}
use Rattle.perc_forward_line.proofs.Turns.{does_err, does_goes, forwards_from, from_is, has_takings, is_sealed, limit_facts, names_err, numbers_err, sealed_by, taken_by, turn_absent, turn_goes, turn_limit, turn_missing, turn_unnamed}
use Rattle.perc_forward_line.proofs.forwarding.forward.Goals as goal

pub returns-in_err-place : goal.returns-in_err-place
returns-in_err-place c = λ s orderly mirrors.
    let p = err_from_is_err_and c.from_residual.result c.from_residual.ensures.1 in
    let none = c.in_err-place.ensures s mirrors in
    does_err _ c.from_residual.result p.0 c.in_err-place.field-0.0 reason.Name c.args.text.now.items c.args.text.now.items c.args.conference.now p.1 p.2
    (inr (none.1, turn_unnamed s c.args.name.now c.args.datagrams (changes_said c.args.changes.now) c.args.recipients none.0))

pub returns-in_err-to : goal.returns-in_err-to
returns-in_err-to c = λ s orderly mirrors.
    let p = err_from_is_err_and c.from_residual-in_err-to.result c.from_residual-in_err-to.ensures.1 in
    let found = c.in_ok-place.ensures s mirrors in
    does_err _ c.from_residual-in_err-to.result p.0 c.in_err-to.field-0.0 reason.Name c.args.text.now.items c.args.text.now.items c.args.conference.now p.1 p.2
    (elim (names_err s c.args.recipients c.in_err-to.field-0.0 (c.in_err-to.ensures s mirrors)) [
      | inl h ↦ inl h
      | inr h ↦ inr (h.0, turn_absent s c.args.name.now c.args.datagrams (changes_said c.args.changes.now) c.args.recipients found.0 found.1 h.1)
    ])

pub returns-in_err-numbers : goal.returns-in_err-numbers
returns-in_err-numbers c = λ s orderly mirrors.
    let p = err_from_is_err_and c.from_residual-in_err-numbers.result c.from_residual-in_err-numbers.ensures.1 in
    let found = c.in_ok-place.ensures s mirrors in
    let to = c.in_ok-to.ensures s mirrors in
    does_err _ c.from_residual-in_err-numbers.result p.0 c.in_err-numbers.field-0.0 reason.Datagram c.args.text.now.items c.args.text.now.items c.args.conference.now p.1 p.2
    (elim (numbers_err s c.args.datagrams c.in_err-numbers.field-0.0 (c.in_err-numbers.ensures s mirrors)) [
      | inl h ↦ inl h
      | inr h ↦ inr (h.0, turn_missing s c.args.name.now c.args.datagrams (changes_said c.args.changes.now) c.args.recipients found.0 found.1 to.1 h.1)
    ])

pub returns-then-len-count-gt-MOST_DATAGRAMS : goal.returns-then-len-count-gt-MOST_DATAGRAMS
returns-then-len-count-gt-MOST_DATAGRAMS c = λ s orderly mirrors.
    let found = c.in_ok-place.ensures s mirrors in
    let to = c.in_ok-to.ensures s mirrors in
    let numbers = c.in_ok-numbers.ensures s mirrors in
    let h = limit_facts s c.args.conference.now found.0 c.args.name.now (names_in c.in_ok-to.to) c.args.recipients c.in_ok-numbers.numbers.items c.args.datagrams c.deref.result.now c.len.result c.len-2.result c.count_recipients-count.result mirrors
    found.1 to.0 numbers.0 c.deref.ensures.value (c.len.ensures ∙ c.args.conference.now.datagrams.ok.0) (c.len-2.ensures ∙ c.in_ok-numbers.numbers.ok.0) c.count_recipients-count.ensures in
    let over : 131072 < c.len.result + c.len-2.result * c.count_recipients-count.result = c.if-len-count-gt-MOST_DATAGRAMS.true in
    does_err _ _ (stop.Refused reason.Limit) (stop.Refused reason.Limit) reason.Limit c.args.text.now.items c.args.text.now.items c.args.conference.now refl refl
    (inr (refl, turn_limit s c.args.name.now c.args.datagrams (changes_said c.args.changes.now) c.args.recipients found.0 found.1 to.1 numbers.1 (subst (λ (n : ℕ). 131072 < n) h over)))

pub index-requires : goal.index-requires
index-requires c =
    let s = c.requires.running.0 in
    let mirrors = c.requires.running.2 in
    let found = c.in_ok-place.ensures s mirrors in
    omega (arith, slice_get_within s.members c.in_ok-place.place found.0 found.2, mirrors.members.count, c.args.conference.now.members.ok.0)

pub send_on-requires-clause-taken : goal.send_on-requires-clause-taken
send_on-requires-clause-taken c =
    let s = c.requires.running.0 in
    let mirrors = c.requires.running.2 in
    let found = c.in_ok-place.ensures s mirrors in
    let numbers = c.in_ok-numbers.ensures s mirrors in
    let from = from_is s c.args.conference.now c.in_ok-place.place found.0 c.index.result.now mirrors found.2 c.index.ensures in
    let there = subst (AreThere s) (sym (c.deref-2.ensures.value ∙ numbers.0)) numbers.1 in
    has_takings s found.0 c.index.result.now.association c.deref-2.result.now c.args.datagrams c.take_all.new.conference from (c.deref-2.ensures.value ∙ numbers.0) c.requires.few (c.in_ok-take_all.ensures s mirrors there)

pub tell-requires-clause-sealed : goal.tell-requires-clause-sealed
tell-requires-clause-sealed c =
    let s = c.requires.running.0 in
    let orderly = c.requires.running.1 in
    let mirrors = c.requires.running.2 in
    let found = c.in_ok-place.ensures s mirrors in
    let to = c.in_ok-to.ensures s mirrors in
    let numbers = c.in_ok-numbers.ensures s mirrors in
    let from = from_is s c.args.conference.now c.in_ok-place.place found.0 c.index.result.now mirrors found.2 c.index.ensures in
    let there = subst (AreThere s) (sym (c.deref-2.ensures.value ∙ numbers.0)) numbers.1 in
    let change = rewrite_of c.change_in-change.result in
    let h = forwards_from s found.0 c.index.result.now.association c.deref-2.result.now c.args.datagrams change (names_in c.in_ok-to.to) c.args.recipients c.take_all.new.conference c.send_on.new.conference from
    (c.deref-2.ensures.value ∙ numbers.0) to.0 (c.in_ok-take_all.ensures s mirrors there) c.in_ok-send_on.ensures in (
      sealed_by s found.0 c.args.datagrams change c.args.recipients,
      taken_by s found.0 c.args.datagrams,
      is_sealed s found.0 c.args.datagrams change c.args.recipients c.take_all.new.conference c.send_on.new.conference orderly c.change_in-change.ensures.right c.requires.few h,
    )

pub returns : goal.returns
returns c = λ s orderly mirrors.
    let found = c.in_ok-place.ensures s mirrors in
    let to = c.in_ok-to.ensures s mirrors in
    let numbers = c.in_ok-numbers.ensures s mirrors in
    let from = from_is s c.args.conference.now c.in_ok-place.place found.0 c.index.result.now mirrors found.2 c.index.ensures in
    let there = subst (AreThere s) (sym (c.deref-2.ensures.value ∙ numbers.0)) numbers.1 in
    let change = rewrite_of c.change_in-change.result in
    let h = forwards_from s found.0 c.index.result.now.association c.deref-2.result.now c.args.datagrams change (names_in c.in_ok-to.to) c.args.recipients c.take_all.new.conference c.send_on.new.conference from
    (c.deref-2.ensures.value ∙ numbers.0) to.0 (c.in_ok-take_all.ensures s mirrors there) c.in_ok-send_on.ensures in
    let sealed = is_sealed s found.0 c.args.datagrams change c.args.recipients c.take_all.new.conference c.send_on.new.conference orderly c.change_in-change.ensures.right c.requires.few h in
    let limit = limit_facts s c.args.conference.now found.0 c.args.name.now (names_in c.in_ok-to.to) c.args.recipients c.in_ok-numbers.numbers.items c.args.datagrams c.deref.result.now c.len.result c.len-2.result c.count_recipients-count.result
    mirrors found.1 to.0 numbers.0 c.deref.ensures.value (c.len.ensures ∙ c.args.conference.now.datagrams.ok.0) (c.len-2.ensures ∙ c.in_ok-numbers.numbers.ok.0) c.count_recipients-count.ensures in
    let within : c.len.result + c.len-2.result * c.count_recipients-count.result ≤ 131072 = c.if-len-count-gt-MOST_DATAGRAMS.false in
    let goes = turn_goes s c.args.name.now c.args.datagrams (changes_said c.args.changes.now) c.args.recipients found.0 found.1 to.1 numbers.1 (subst (λ (n : ℕ). n ≤ 131072) limit within) in
    does_goes s found.0 c.args.datagrams change c.args.recipients _ c.send_on.new.conference c.tell.new.conference c.tell.result c.args.text.now.items c.tell.new.text.items h.seals.seals.outputs
    (goes ∙ ap (λ (r : Rewrite). forwarded s found.0 c.args.datagrams r c.args.recipients) (sym c.change_in-change.ensures.value))
    (c.tell.ensures (sealed_by s found.0 c.args.datagrams change c.args.recipients) (taken_by s found.0 c.args.datagrams) sealed)
