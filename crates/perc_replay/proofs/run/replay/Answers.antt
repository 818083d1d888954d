use Rattle.std.proofs.Common.{◌≡◌, ◌≢◌, ◌+◌, Ok, None, Some, Option, Result, ap, ◌∙◌, subst, sym, arith}
use Rattle.perc_conference_state.specs.declared.conference.Told.{Told}
use Rattle.perc_replay.specs.declared.run.Counts.{Counts}
use Rattle.perc_replay.specs.declared.run.Halt.{Halt}
use Rattle.perc_run.specs.State.{nobody}
use Rattle.perc_replay.proofs.Running.{ReachesOn, bounded_more, none_counted, on_halted, on_more, on_none, on_over, on_past}
use Rattle.perc_replay.proofs.run.replay.Goals as goal

some_ok : {o : Option Told} {told : Told} → o ≡ Some told → ◌≡◌ {A = Result (Option Told) Halt} (Ok o) (Ok (Some told))
some_ok e = ap (λ (x : Option Told). Ok x) e

pub loop-number-init : goal.loop-number-init
loop-number-init g c = record {
  running = (nobody, c.always_orderly.ensures.first, c.in-Ok-new.ensures);
  bounded = none_counted c.in-Ok-new.conference c.in-Ok-new.ensures;
  reads = omega arith;
  writes = omega arith;
  reaches = on_none (g.I.Source.left c.args.input.now) (g.O.Sink.written c.args.out.now) c.in-Ok.lines c.in-Ok-new.conference c.in-Ok.ensures c.always_orderly.ensures.first c.in-Ok-new.ensures;
}

none_ok : {o : Option Told} → o ≡ None → ◌≡◌ {A = Result (Option Told) Halt} (Ok o) (Ok None)
none_ok e = ap (λ (x : Option Told). Ok x) e

pub returns-in-Ok-None-clause-report : goal.returns-in-Ok-None-clause-report
returns-in-Ok-None-clause-report g c =
    let l = c.loop-number in
    let all = g.I.Source.left c.args.input.now in
    let written = g.O.Sink.written c.args.out.now in
    on_over all written (g.I.Source.left l.input) (g.O.Sink.written l.out) (g.I.Source.left c.step.new.input) (g.O.Sink.written c.step.new.out) l.number l.lines c.step.new.lines l.conference
    c.step.new.conference l.counts c.step.result l.invariant.reaches c.step.ensures.step (c.in-Ok-None.is ∙ none_ok c.in-Ok-None.field-0-is)

pub returns-in-Err-clause-report : goal.returns-in-Err-clause-report
returns-in-Err-clause-report g c =
    let l = c.loop-number in
    let all = g.I.Source.left c.args.input.now in
    let written = g.O.Sink.written c.args.out.now in
    let later = g.I.Source.left c.step.new.input in
    let wrote = g.O.Sink.written c.step.new.out in
    let below : l.number ≢ 4294967295 = λ e. omega arith in
    on_halted all written (g.I.Source.left l.input) (g.O.Sink.written l.out) later wrote l.number l.lines c.step.new.lines l.conference c.step.new.conference l.counts c.in-Err.halt
    c.step.result c.end_of.result below l.invariant.reaches c.step.ensures.step c.in-Err.is c.end_of.ensures

pub loop-number-preserved : goal.loop-number-preserved
loop-number-preserved g c =
    let l = c.loop-number in
    let all = g.I.Source.left c.args.input.now in
    let written = g.O.Sink.written c.args.out.now in
    let later = g.I.Source.left c.step.new.input in
    let wrote = g.O.Sink.written c.step.new.out in
    let told = c.in-Ok-Some.told in
    let below : l.number ≢ 4294967295 = λ e. omega arith in
    let grows = rw c.in-Ok-Some.field-0-is at c.in-Ok-Some.ensures.grows in record {
      running = grows.running;
      bounded = bounded_more told l.counts c.count.new.self l.conference c.step.new.conference l.number c.count.ensures grows l.invariant.bounded;
      reads = omega (arith, l.invariant.reads, c.step.ensures.reads_never_fall);
      writes = omega (arith, l.invariant.writes, c.step.ensures.writes_never_fall);
      reaches = subst (λ (n : Counts). ReachesOn all written later wrote (l.number + 1) c.step.new.lines c.step.new.conference n) (sym c.count.ensures)
          (on_more all written (g.I.Source.left l.input) (g.O.Sink.written l.out) later wrote l.number l.lines c.step.new.lines l.conference c.step.new.conference l.counts told
          c.step.result below l.invariant.reaches c.step.ensures.step (c.in-Ok-Some.is ∙ some_ok c.in-Ok-Some.field-0-is));
    }

pub returns-clause-report : goal.returns-clause-report
returns-clause-report g c =
    let l = c.loop-number in
    let last : l.number ≡ 4294967295 = omega arith in
    on_past (g.I.Source.left c.args.input.now) (g.O.Sink.written c.args.out.now) (g.I.Source.left l.input) (g.O.Sink.written l.out) (g.I.Source.left c.past_all.new.input) l.number l.lines
    c.past_all.new.lines l.conference l.counts c.past_all.result last l.invariant.reaches c.past_all.ensures.end c.past_all.ensures.broken
