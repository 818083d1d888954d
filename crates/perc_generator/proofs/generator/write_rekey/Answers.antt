use Rattle.std.proofs.Common.{◌≡◌, ◌++◌, ℕ, List, OnOk, ap, ◌∙◌, subst, arith}
use Rattle.byteorder.specs.Endian.{big_bytes}
use Rattle.hex.specs.Hex.{encode_lower}
use Rattle.perc_generator.proofs.Texts.{rekey_text}
use Rattle.perc_generator.proofs.generator.write_rekey.Goals as goal

pub returns : goal.returns
returns c =
    subst (λ (t : List ℕ). OnOk c.write_line.result (c.write_line.new.out.items ≡ c.args.out.now.items ++ t))
    (rekey_text c.args.round _ _ c.requires.speaker (c.as_bytes.ensures.value ∙ c.in_ok-key.ensures ∙ ap encode_lower (c.to_be_bytes.ensures ∙ ap (big_bytes 16) c.from.ensures)) (grind (arith, c.if-round-ne29.false)))
    c.write_line.ensures
