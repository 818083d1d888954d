use Rattle.std.proofs.Common.{◌∷◌, []}
use Rattle.perc_station_tests.proofs.distributor.forward.Goals as goal

pub forward-requires-clause-plain : goal.forward-requires-clause-plain
forward-requires-clause-plain c = (c.requires.0 ∷ [], (c.requires.1, tt))
