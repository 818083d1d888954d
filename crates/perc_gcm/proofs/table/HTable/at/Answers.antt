use Rattle.std.proofs.Common.{ℕ, List, get_or, ap, ◌∙◌}
use Rattle.perc_gcm.specs.Table.{Table, multiples}
use Rattle.perc_gcm.proofs.Multiples.{multiple_at}
use Rattle.perc_gcm.proofs.table.HTable.at.Goals as goal

pub returns : goal.returns
returns c =
    ap (λ (xs : List ℕ). get_or xs c.args.nibble 0) (c.self.invariant ∙ ap multiples (ap (λ (t : Table). t.h) c.self.view_is))
    ∙ multiple_at c.args.self.now.h c.args.nibble c.requires
