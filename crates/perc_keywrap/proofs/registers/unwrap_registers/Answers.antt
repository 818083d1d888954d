use Rattle.std.proofs.Common.{◌≡◌, ◌≢◌, ◌+◌, ◌-◌, ◌*◌, ◌∙◌, length, arith}
use Rattle.perc_keywrap.specs.Wrap.{count}
use Rattle.perc_keywrap.proofs.Steps.{leads_back, leads_first}
use Rattle.perc_keywrap.proofs.WrapLaws.{registers_two, registers_more}
use Rattle.perc_keywrap.proofs.registers.unwrap_registers.Goals as goal

pub returns-then-octets-eq16-clause-value : goal.returns-then-octets-eq16-clause-value
returns-then-octets-eq16-clause-value c =
    let size : length c.unwrap_block.new.octets ≡ 16 = omega arith in
    registers_two c.args.key.now c.unwrap_block.new.octets size ∙ c.unwrap_block.ensures.value

pub loop-step-preserved : goal.loop-step-preserved
loop-step-preserved c =
    let n = count c.args.octets.now in
    let next : c.loop-step.step - 1 + 1 ≡ c.loop-step.step = omega arith in
    record {
      size = omega arith;
      leads =
          leads_back c.args.key.now c.loop-step.octets c.unwrap_step.new.octets c.args.octets.now n (c.loop-step.step - 1) (6 * n)
          (rw next c.loop-step.invariant.leads) c.unwrap_step.ensures.value;
      begun = λ _. c.unwrap_step.ensures.key;
      small = λ _. c.unwrap_step.ensures.octets;
    }

pub returns-clause-value : goal.returns-clause-value
returns-clause-value c =
    let n = count c.args.octets.now in
    let none : c.loop-step.step ≡ 0 = omega arith in
    let more : n ≢ 1 = omega arith in
    registers_more c.args.key.now c.loop-step.octets n (omega arith) more
    ∙ leads_first c.args.key.now c.loop-step.octets c.args.octets.now n (6 * n) (rw none at c.loop-step.invariant.leads)

pub returns-clause-octets : goal.returns-clause-octets
returns-clause-octets c = c.loop-step.invariant.small (omega arith)
