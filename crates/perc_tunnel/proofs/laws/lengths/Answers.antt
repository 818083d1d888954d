use Rattle.perc_tunnel.proofs.Written.{spelling-length, has_lengths}
use Rattle.perc_tunnel.proofs.laws.lengths.Goals as goal

pub returns-clause-spelled : goal.returns-clause-spelled
returns-clause-spelled c = spelling-length

pub returns-clause-possible : goal.returns-clause-possible
returns-clause-possible c = has_lengths
