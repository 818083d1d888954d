use Rattle.perc_outer.proofs.Outer.{is_reached, reaches}
use Rattle.perc_outer.proofs.laws.reached_as_sealed.Goals as goal

pub returns-clause-reached : goal.returns-clause-reached
returns-clause-reached c = λ keys own streams datagram o session octets. (is_reached keys own streams datagram o session octets, reaches keys own streams datagram o)

pub returns-clause-sealed : goal.returns-clause-sealed
returns-clause-sealed c = reaches
