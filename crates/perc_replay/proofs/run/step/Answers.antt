use Rattle.std.proofs.Common.{◌≡◌, Ok, Some, Option, Result, ap, ◌∙◌, subst}
use Rattle.perc_conference_state.specs.declared.conference.Told.{Told}
use Rattle.perc_replay.specs.Running.{NextTurn}
use Rattle.perc_replay.specs.declared.run.Halt.{Halt}
use Rattle.perc_replay.proofs.Stepping.{on_err_written, on_ok_written, step_goes, step_part}
use Rattle.perc_replay.proofs.run.step.Goals as goal

some_ok : {o : Option Told} {told : Told} → o ≡ Some told → ◌≡◌ {A = Result (Option Told) Halt} (Ok o) (Ok (Some told))
some_ok e = ap (λ (x : Option Told). Ok x) e

pub returns-then-is_err-clause-step : goal.returns-then-is_err-clause-step
returns-then-is_err-clause-step g c = λ s orderly mirrors.
    let left = g.I.Source.left c.args.input.now in
    let later = g.I.Source.left c.turn_next.new.input in
    let written = g.O.Sink.written c.args.out.now in
    let wrote = g.O.Sink.written c.write_all.new.out in
    let held = c.args.lines.now in
    let now = c.turn_next.new.lines in
    let before = c.clear.new.self.items in
    let text = c.turn_next.new.text.items in
    let conference = c.turn_next.new.conference in
    let is = c.in_ok-told.was ∙ some_ok c.in-Some.is in
    let came = subst (λ (r : Result (Option Told) Halt). NextTurn s left later held now r before text conference) is (c.turn_next.ensures.turn s orderly mirrors) in
    step_part s left later written wrote held now c.in-Some.told before text conference came c.clear.ensures.items
    (on_err_written c.write_all.result written wrote c.as_slice.result.now text c.as_slice.ensures.value c.if-is_err.ensures.value c.write_all.ensures.part)

pub returns-clause-step : goal.returns-clause-step
returns-clause-step g c = λ s orderly mirrors.
    let left = g.I.Source.left c.args.input.now in
    let later = g.I.Source.left c.turn_next.new.input in
    let written = g.O.Sink.written c.args.out.now in
    let wrote = g.O.Sink.written c.write_all.new.out in
    let held = c.args.lines.now in
    let now = c.turn_next.new.lines in
    let before = c.clear.new.self.items in
    let text = c.turn_next.new.text.items in
    let conference = c.turn_next.new.conference in
    let is = c.in_ok-told.was ∙ some_ok c.in-Some.is in
    let came = subst (λ (r : Result (Option Told) Halt). NextTurn s left later held now r before text conference) is (c.turn_next.ensures.turn s orderly mirrors) in
    step_goes s left later written wrote held now c.in-Some.told before text conference came c.clear.ensures.items
    (on_ok_written c.write_all.result written wrote c.as_slice.result.now text c.as_slice.ensures.value c.if-is_err.ensures.value c.write_all.ensures.all)
