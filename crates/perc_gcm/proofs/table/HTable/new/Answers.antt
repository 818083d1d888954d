use Rattle.std.proofs.Common.{ℕ, ap, ◌∙◌}
use Rattle.perc_gcm.specs.Field.{product}
use Rattle.perc_gcm.specs.Gcm.{element}
use Rattle.perc_gcm.specs.Table.{polynomial}
use Rattle.perc_gcm.proofs.table.HTable.new.Goals as goal

pub returns-clause-element : goal.returns-clause-element
unfolding element
returns-clause-element c = c.of.ensures.element ∙ c.from_be_bytes.ensures

pub returns-clause-entries : goal.returns-clause-entries
unfolding element
returns-clause-entries c = λ i inside.
    c.of.ensures.entries i inside ∙ ap (λ (h : ℕ). product (polynomial i) h) c.from_be_bytes.ensures
