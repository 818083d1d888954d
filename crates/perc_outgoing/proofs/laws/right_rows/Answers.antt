use Rattle.perc_outgoing.proofs.Rows.{right_row, right_wraps}
use Rattle.perc_outgoing.proofs.laws.right_rows.Goals as goal

pub returns : goal.returns
returns c = record { row = right_row; wraps = right_wraps }
