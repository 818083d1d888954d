use Rattle.std.proofs.Common.{ap}
use Rattle.perc_gcm.specs.Table.{Table}
use Rattle.perc_gcm.proofs.table.HTable.element.Goals as goal

pub returns : goal.returns
returns c = ap (λ (t : Table). t.h) c.self.view_is
