use Rattle.std.proofs.Common.{◌++◌, ℕ, List, ap, ◌∙◌}
use Rattle.perc_generator.proofs.Texts.{ann_ssrc, bob_ssrc, cat_ssrc, ekt_text, on_ok, opening_text}
use Rattle.perc_generator.proofs.generator.write_opening.Goals as goal

pub returns : goal.returns
returns c =
    on_ok c.write_join-3.result
    (λ last. opening_text c.args.out.now.items _ _ _ _ _ c.in_ok-write_line.ensures
    (
    c.in_ok-write_line-2.ensures
    ∙ ap (λ (t : List ℕ). c.write_line.new.out.items ++ t) (ekt_text _ _ (c.as_bytes.ensures.value ∙ c.in_ok-key.ensures) (c.as_bytes-2.ensures.value ∙ c.in_ok-salt.ensures))
    )
    (c.in_ok-write_join.ensures 1 ann_ssrc) (c.in_ok-write_join-2.ensures 2 bob_ssrc) last)
    (c.write_join-3.ensures 3 cat_ssrc)
