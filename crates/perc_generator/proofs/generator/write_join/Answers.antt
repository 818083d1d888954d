use Rattle.std.proofs.Common.{◌≡◌, ◌++◌, ℕ, List, OnOk, ◌∙◌, subst}
use Rattle.perc_generator.proofs.Texts.{join_text}
use Rattle.perc_generator.proofs.generator.write_join.Goals as goal

pub returns : goal.returns
returns c = λ number is.
    subst (λ (t : List ℕ). OnOk c.write_line.result (c.write_line.new.out.items ≡ c.args.out.now.items ++ t))
    (
    join_text c.args.name.now _ _ _ _ number c.args.octet is (c.as_bytes.ensures.value ∙ c.in_ok-client.ensures) (c.as_bytes-2.ensures.value ∙ c.in_ok-server.ensures)
    (c.as_bytes-3.ensures.value ∙ c.in_ok-key.ensures)
    )
    c.write_line.ensures
