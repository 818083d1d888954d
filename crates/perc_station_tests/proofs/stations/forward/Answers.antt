use Rattle.std.proofs.Common.{◌∷◌, []}
use Rattle.perc_station_tests.proofs.stations.forward.Goals as goal

pub forward_batch-requires-clause-plain : goal.forward_batch-requires-clause-plain
forward_batch-requires-clause-plain g c κs within = (c.requires.plain.0 ∷ [], (c.requires.plain.1, tt))
