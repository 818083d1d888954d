use Rattle.std.proofs.Common.{sym, ◌∙◌}
use Rattle.perc_receiver.specs.Receiver.{settled}
use Rattle.perc_incoming.specs.Outcome.{padding_answer}
use Rattle.perc_endpoint.proofs.Standing.{receiving_kept, settled_secrets}
use Rattle.perc_endpoint.proofs.endpoint.Endpoint.settle.Goals as goal

pub invariant_of-self : goal.invariant_of-self
invariant_of-self c =
    let i = c.self.invariant in
    let t = rw (← c.self.view_is) at c.requires.taken in
    receiving_kept _ c.settle.new.self (settled t.receiver_is (padding_answer t.datagram t.try_is)) i c.settle.ensures.profile
    (c.settle.ensures.stands t.receiver_is t.datagram t.try_is t.stands t.told_is t.taken)
    (settled_secrets t.receiver_is (padding_answer t.datagram t.try_is) ∙ sym t.stands.secrets ∙ i.stands.1.receiving.secrets)
