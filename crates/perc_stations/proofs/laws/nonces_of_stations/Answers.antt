use Rattle.perc_stations.proofs.Rounds.{all_apart, all_sealed}
use Rattle.perc_stations.proofs.laws.nonces_of_stations.Goals as goal

pub returns-clause-apart : goal.returns-clause-apart
returns-clause-apart c = all_apart

pub returns-clause-outputs : goal.returns-clause-outputs
returns-clause-outputs c = all_sealed
