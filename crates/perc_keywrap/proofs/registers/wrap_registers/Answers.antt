use Rattle.std.proofs.Common.{◌≡◌, ◌≢◌, ℕ, ◌+◌, ◌*◌, ◌%◌, List, refl, sym, ◌∙◌, ap, arith}
use Rattle.perc_keywrap.specs.Wrap.{count, step}
use Rattle.perc_keywrap.proofs.Steps.{after_steps, steps_none, steps_more}
use Rattle.perc_keywrap.proofs.WrapLaws.{registers_two, registers_more}
use Rattle.perc_keywrap.proofs.registers.wrap_registers.Goals as goal

pub returns-then-octets-eq16-clause-value : goal.returns-then-octets-eq16-clause-value
returns-then-octets-eq16-clause-value c =
    c.wrap_block.ensures.value
    ∙ sym (registers_two c.args.key.now c.args.octets.now (omega arith))

pub loop-step-init : goal.loop-step-init
loop-step-init c = record {
  size = refl;
  begun = λ none. absurd (omega arith);
  done = sym (steps_none c.args.key.now c.args.octets.now (count c.args.octets.now));
}

pub loop-step-preserved : goal.loop-step-preserved
loop-step-preserved c =
    let n = count c.args.octets.now in
    let t = c.loop-step.step in
    record {
      size = omega arith;
      begun = λ _. c.wrap_step.ensures.key;
      done =
          c.wrap_step.ensures.value
          ∙ ap (λ (s : List ℕ). step c.args.key.now s (t % n + 1) (t + 1)) c.loop-step.invariant.done
          ∙ sym (steps_more c.args.key.now c.args.octets.now n t);
    }

pub returns-clause-value : goal.returns-clause-value
returns-clause-value c =
    let n = count c.args.octets.now in
    let all : c.loop-step.step ≡ 6 * n = omega arith in
    let more : n ≢ 1 = omega arith in
    c.loop-step.invariant.done
    ∙ ap (λ (t : ℕ). after_steps c.args.key.now n c.args.octets.now t) all
    ∙ sym (registers_more c.args.key.now c.args.octets.now n (omega arith) more)
