use Rattle.perc_outgoing.specs.Sending.{after_take}
use Rattle.perc_endpoint.proofs.Standing.{sending_kept}
use Rattle.perc_endpoint.proofs.endpoint.Endpoint.rekey.Goals as goal

pub invariant_of-self-2 : goal.invariant_of-self-2
invariant_of-self-2 c =
    let i = c.self.invariant in
    let o = i.stands.0.sending in
    sending_kept _ c.rekey.new.self (after_take o o.secret c.args.key.now) i c.in_ok-rekey.ensures.granted (c.in_ok-rekey.ensures.taken o i.stands.1.sending)
