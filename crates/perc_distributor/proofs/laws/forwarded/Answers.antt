use Rattle.perc_distributor.proofs.Arriving.{opens_as_relayed}
use Rattle.perc_distributor.proofs.Relaying.{step_relayed}
use Rattle.perc_distributor.proofs.laws.forwarded.Goals as goal

pub returns-clause-sealed : goal.returns-clause-sealed
returns-clause-sealed c = step_relayed

pub returns-clause-opens : goal.returns-clause-opens
returns-clause-opens c = λ e h inner o field change octets master spelled may r. opens_as_relayed e h inner o field change octets r master spelled may
