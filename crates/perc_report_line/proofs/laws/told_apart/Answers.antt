use Rattle.perc_report_line.proofs.Lines.{texts_apart}
use Rattle.perc_report_line.proofs.laws.told_apart.Goals as goal

pub returns : goal.returns
returns c one other f g e = texts_apart one other f g e
