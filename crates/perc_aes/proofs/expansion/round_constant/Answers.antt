use Rattle.std.proofs.Common.{[], ◌∷◌, ap, ◌∙◌, arith}
use Rattle.perc_aes.proofs.StateLaws.{first_octet}
use Rattle.perc_aes.proofs.expansion.round_constant.Goals as goal

pub returns : goal.returns
returns c =
    first_octet c.from.result (omega arith)
    ∙ ap (λ x. x ∷ 0 ∷ 0 ∷ 0 ∷ []) (c.from.ensures ∙ c.power_of_x.ensures)
