use Rattle.perc_receiver.specs.Opener.{by_cipher}
use Rattle.perc_receiver.specs.Receiver.{outcome}
use Rattle.perc_receiver.proofs.Calling.{heard_secrets}
use Rattle.perc_endpoint.proofs.Standing.{receiving_kept}
use Rattle.perc_endpoint.proofs.endpoint.Endpoint.receive.Goals as goal

pub invariant_of-self : goal.invariant_of-self
invariant_of-self c =
    let i = c.self.invariant in
    let r = i.stands.0.receiving in
    let d = c.args.datagram.now in
    receiving_kept _ c.receive.new.self (outcome r d).1 i c.receive.ensures.profile (c.receive.ensures.stands r i.stands.1.receiving)
    (heard_secrets (by_cipher r.secrets) r d)
