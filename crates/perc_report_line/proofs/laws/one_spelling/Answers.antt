use Rattle.std.proofs.Common.{ap, ◌∙◌}
use Rattle.perc_report_line.specs.Report.{report_of}
use Rattle.perc_report_line.proofs.Lines.{report_back, report_told}
use Rattle.perc_report_line.proofs.laws.one_spelling.Goals as goal

pub returns : goal.returns
returns c line report = (λ h. report_back line report h, λ h. ap report_of h.0 ∙ report_told report h.1)
