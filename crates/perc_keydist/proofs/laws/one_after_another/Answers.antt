use Rattle.perc_keydist.proofs.FoldLaws.{safe_runs}
use Rattle.perc_keydist.proofs.laws.one_after_another.Goals as goal

pub returns : goal.returns
returns c = safe_runs
