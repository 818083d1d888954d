use Rattle.std.proofs.Common.{ap, refl, ◌∙◌}
use Rattle.std.specs.Prelude.{map}
use Rattle.std.proofs.lemmas.Result.{err_from_is_err_and}
use Rattle.std.proofs.Common.{Err, subst, sym, List}
use Rattle.perc_contexts.specs.Receiving.{Attempt, tries}
use Rattle.perc_contexts.specs.Kept.{AreTries, told}
use Rattle.perc_contexts.specs.declared.Try.{Try}
use Rattle.perc_receiver.specs.Table.{secret_in}
use Rattle.perc_receiver.specs.Receiver.{some_tries}
use Rattle.perc_receiver.specs.Foreign.{tries_or_none}
use Rattle.perc_incoming.specs.Opening.{AreAppended}
use Rattle.perc_incoming.proofs.Inquiring.{append_none}
use Rattle.perc_incoming.proofs.Taking.{some_are, some_refused, take_decided, take_refused}
use Rattle.perc_incoming.proofs.inquiry.ask_by.Goals as goal

pub returns-in_err-list-clause-decided : goal.returns-in_err-list-clause-decided
returns-in_err-list-clause-decided c = λ held h stands is.
    let p = err_from_is_err_and c.from_residual.result c.from_residual.ensures.1 in
    let carried = told c.args.carried in
    let none =
    some_refused held c.args.ssrc carried (some_tries (tries held.contexts c.args.ssrc c.args.seq carried)) c.in_err-list.field-0.0 (c.in_err-list.ensures held stands) in
    take_refused held c.args.ssrc c.args.seq carried (map secret_in c.args.records.now) h c.args.inner.now.octets.now c.ranges.seq.fits c.in_err-list.field-0.0
    c.from_residual.result c.args.room.now none (p.1 ∙ ap Err p.2)

pub ask_tries-requires-clause-tries : goal.ask_tries-requires-clause-tries
ask_tries-requires-clause-tries c =
    let r = c.requires.held in
    let carried = told c.args.carried in
    let s = some_are r.0 c.args.ssrc carried (some_tries (tries r.0.contexts c.args.ssrc c.args.seq carried)) c.in_ok-list.list (c.in_ok-list.ensures r.0 r.1) in
    record {
      held = r.0;
      ssrc = c.args.ssrc;
      attempts = s.attempts;
      stands = r.1;
      are = subst (λ (l : List Try). AreTries r.0.contexts c.args.ssrc carried l s.attempts) (sym c.as_slice.ensures.value) s.are;
    }

pub returns-clause-decided : goal.returns-clause-decided
returns-clause-decided c = λ held h stands is.
    let carried = told c.args.carried in
    let s = some_are held c.args.ssrc carried (some_tries (tries held.contexts c.args.ssrc c.args.seq carried)) c.in_ok-list.list (c.in_ok-list.ensures held stands) in
    let are = subst (λ (l : List Try). AreTries held.contexts c.args.ssrc carried l s.attempts) (sym c.as_slice.ensures.value) s.are in
    take_decided held c.args.ssrc c.args.seq carried (map secret_in c.args.records.now) h c.args.inner.now.octets.now c.ranges.seq.fits c.in_ok-list.list.items s
    c.ask_tries.result c.ask_tries.new.room (c.ask_tries.ensures.decided held c.args.ssrc s.attempts h stands are is)

pub returns-in_err-list-clause-appended : goal.returns-in_err-list-clause-appended
returns-in_err-list-clause-appended c = λ held h stands is.
    let carried = told c.args.carried in
    let none =
    some_refused held c.args.ssrc carried (some_tries (tries held.contexts c.args.ssrc c.args.seq carried)) c.in_err-list.field-0.0 (c.in_err-list.ensures held stands) in
    append_none (map secret_in c.args.records.now) h c.args.inner.now.octets.now _ _ _ (ap tries_or_none none) refl

pub returns-clause-appended : goal.returns-clause-appended
returns-clause-appended c = λ held h stands is.
    let carried = told c.args.carried in
    let s = some_are held c.args.ssrc carried (some_tries (tries held.contexts c.args.ssrc c.args.seq carried)) c.in_ok-list.list (c.in_ok-list.ensures held stands) in
    let are = subst (λ (l : List Try). AreTries held.contexts c.args.ssrc carried l s.attempts) (sym c.as_slice.ensures.value) s.are in
    subst
    (λ (l : List Attempt). AreAppended (map secret_in c.args.records.now) h c.args.inner.now.octets.now l c.args.open_keys.now.items c.ask_tries.new.open_keys.items)
    (sym (ap tries_or_none s.is)) (c.ask_tries.ensures.appended held c.args.ssrc s.attempts h stands are is)
