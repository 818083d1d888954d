use Rattle.std.proofs.Common.{ℕ, ap, ◌∙◌}
use Rattle.perc_gcm.specs.Field.{product}
use Rattle.perc_gcm.proofs.table.OctetTable.squared.Goals as goal

pub returns : goal.returns
returns c = c.of.ensures ∙ c.product.ensures ∙ ap (λ (x : ℕ). product x c.args.self.now.whole.h) c.element.ensures
