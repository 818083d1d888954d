use Rattle.perc_keydist.proofs.Rows as rows
use Rattle.perc_keydist.proofs.laws.worked_rows.Goals as goal

pub returns : goal.returns
returns c = rows.worked_rows
