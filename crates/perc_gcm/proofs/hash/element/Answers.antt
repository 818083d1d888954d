use Rattle.std.proofs.Common.{List, ℕ, ap, ◌∙◌, ◌++◌, drop, length, replicate}
use Rattle.perc_gcm.specs.Gcm.{element}
use Rattle.perc_gcm.proofs.Blocks.{element_padded}
use Rattle.perc_gcm.proofs.hash.element.Goals as goal

pub returns : goal.returns
unfolding element
returns c =
    c.from_be_bytes.ensures
    ∙ ap (λ (xs : List ℕ). element (xs ++ drop (length c.args.octets.now) (replicate 16 0))) c.copy_from_slice.ensures.after
    ∙ element_padded c.args.octets.now c.requires
