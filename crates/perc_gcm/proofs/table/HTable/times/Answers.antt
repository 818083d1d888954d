use Rattle.std.proofs.Common.{ℕ, List, ap, ◌∙◌}
use Rattle.perc_gcm.specs.Field.{product}
use Rattle.perc_gcm.specs.Gcm.{element}
use Rattle.perc_gcm.proofs.Numbers.{element_of_bytes}
use Rattle.perc_gcm.proofs.table.HTable.times.Goals as goal

pub returns : goal.returns
unfolding element
returns c =
    ap (λ (xs : List ℕ). element xs) c.block_of.ensures
    ∙ element_of_bytes c.product.result c.product.type_inv
    ∙ c.product.ensures
    ∙ ap (λ (x : ℕ). product x c.args.self.now.h) c.from_be_bytes.ensures
