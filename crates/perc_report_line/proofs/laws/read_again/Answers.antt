use Rattle.perc_report_line.proofs.Lines.{text_told}
use Rattle.perc_report_line.proofs.laws.read_again.Goals as goal

pub returns : goal.returns
returns c report line f e = text_told report line f e
