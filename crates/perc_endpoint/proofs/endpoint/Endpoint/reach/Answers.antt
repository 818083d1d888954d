use Rattle.std.proofs.Common.{refl}
use Rattle.perc_receiver.specs.Receiver.{reach_of}
use Rattle.perc_incoming.specs.Outcome.{after_reach}
use Rattle.perc_endpoint.proofs.Standing.{receiving_kept}
use Rattle.perc_endpoint.proofs.endpoint.Endpoint.reach.Goals as goal

pub invariant_of-self : goal.invariant_of-self
invariant_of-self c =
    let i = c.self.invariant in
    let r = i.stands.0.receiving in
    receiving_kept _ c.reach.new.self (after_reach r (reach_of r c.args.datagram.now)) i c.reach.ensures.profile (c.reach.ensures.stands r i.stands.1.receiving) refl
