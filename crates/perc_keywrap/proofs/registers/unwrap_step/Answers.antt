use Rattle.std.proofs.Common.{List, ℕ, ◌∙◌, ap, arith}
use Rattle.perc_keywrap.specs.Wrap.{numbered, step}
use Rattle.perc_keywrap.proofs.Steps.{step_back}
use Rattle.perc_keywrap.proofs.registers.unwrap_step.Goals as goal

pub returns-clause-value : goal.returns-clause-value
returns-clause-value c =
    let b = c.decrypt_block.new.block in
    ap (λ (s : List ℕ). step c.args.key.now s c.args.i c.args.number) c.put.ensures
    ∙ step_back c.args.key.now c.args.octets.now b c.args.i c.args.number c.requires.after_first c.requires.within c.decrypt_block.ensures.block.size
    (c.decrypt_block.ensures.value ∙ c.numbered-pair.ensures ∙ ap (λ (x : List ℕ). numbered x c.args.number) c.joined.ensures)

pub returns-clause-octets : goal.returns-clause-octets
returns-clause-octets c = λ k. omega (arith, c.type_inv.octets k)
