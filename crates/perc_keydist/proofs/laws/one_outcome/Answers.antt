use Rattle.perc_keydist.proofs.PieceLaws as pieces
use Rattle.perc_keydist.proofs.laws.one_outcome.Goals as goal

pub returns : goal.returns
returns c = pieces.one_outcome
