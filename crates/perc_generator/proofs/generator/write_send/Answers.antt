use Rattle.std.proofs.Common.{◌≡◌, ◌++◌, ℕ, List, OnOk, ◌∙◌, subst}
use Rattle.perc_generator.proofs.Texts.{send_text}
use Rattle.perc_generator.proofs.generator.write_send.Goals as goal

pub returns : goal.returns
returns c =
    subst (λ (t : List ℕ). OnOk c.write_line.result (c.write_line.new.out.items ≡ c.args.out.now.items ++ t))
    (
    send_text c.args.round _ _ _ _ _ c.requires.speaker (c.as_bytes.ensures.value ∙ c.in_ok-pt.ensures) (c.as_bytes-2.ensures.value ∙ c.in_ok-marker.ensures)
    (c.as_bytes-3.ensures.value ∙ c.in_ok-timestamp.ensures) (c.as_bytes-4.ensures.value ∙ c.in_ok-payload.ensures)
    )
    c.write_line.ensures
