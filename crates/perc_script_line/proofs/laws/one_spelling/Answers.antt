use Rattle.perc_script_line.proofs.Lines.{script_back}
use Rattle.perc_script_line.proofs.Told.{script_told}
use Rattle.perc_script_line.proofs.laws.one_spelling.Goals as goal

pub returns : goal.returns
returns c octets script = (λ h. script_back octets script h, λ h. script_told octets script h.0 h.1)
