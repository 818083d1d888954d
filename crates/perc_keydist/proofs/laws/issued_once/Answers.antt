use Rattle.perc_keydist.proofs.FoldLaws.{safe_run}
use Rattle.perc_keydist.proofs.laws.issued_once.Goals as goal

pub returns : goal.returns
returns c = safe_run
