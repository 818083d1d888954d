-- By the try of the row.
use Rattle.perc_receiver.proofs.Genuine.{genuine_accepted}
use Rattle.perc_receiver.proofs.laws.genuine_accepted.Goals as goal

pub returns : goal.returns
returns c = genuine_accepted
