use Rattle.perc_forwarding.proofs.Matching.{step_sealed}
use Rattle.perc_forwarding.proofs.laws.seals_of_outputs.Goals as goal

pub returns : goal.returns
returns c = step_sealed
