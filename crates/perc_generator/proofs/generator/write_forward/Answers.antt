use Rattle.std.proofs.Common.{◌≡◌, ◌++◌, ℕ, List, OnOk, ◌∙◌, subst, arith}
use Rattle.perc_generator.proofs.Texts.{forward_plain, forward_text}
use Rattle.perc_generator.proofs.generator.write_forward.Goals as goal

pub returns-then-round-eq1 : goal.returns-then-round-eq1
returns-then-round-eq1 c =
    subst (λ (t : List ℕ). OnOk c.write_line.result (c.write_line.new.out.items ≡ c.args.out.now.items ++ t))
    (forward_text c.args.round _ _ c.requires.speaker (c.as_bytes-number.ensures.value ∙ c.format.ensures.text) (grind (arith, c.if-round-eq1.true)))
    c.write_line.ensures

pub returns-else-round-eq1 : goal.returns-else-round-eq1
returns-else-round-eq1 c =
    subst (λ (t : List ℕ). OnOk c.write_line-else-round-eq1.result (c.write_line-else-round-eq1.new.out.items ≡ c.args.out.now.items ++ t))
    (forward_plain c.args.round _ _ c.requires.speaker (c.as_bytes-number.ensures.value ∙ c.format.ensures.text) (grind (arith, c.if-round-eq1.false)))
    c.write_line-else-round-eq1.ensures
