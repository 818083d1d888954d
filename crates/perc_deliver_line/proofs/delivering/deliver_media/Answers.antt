use Rattle.std.proofs.Common.{sym, ◌∙◌}
use Rattle.perc_receiver.specs.Receiver.{outcome}
use Rattle.perc_deliver_line.specs.Hearing.{heard_state}
use Rattle.perc_deliver_line.proofs.Held.{somebody_at}
use Rattle.perc_deliver_line.proofs.Receiving.{orderly_kept}
use Rattle.perc_deliver_line.proofs.Turning.{accepted_does, was_sent}
use Rattle.perc_deliver_line.proofs.delivering.deliver_media.Goals as goal

pub accept-requires-clause-profile : goal.accept-requires-clause-profile
accept-requires-clause-profile c =
    let some = somebody_at c.args.conference.now c.args.place c.requires.running c.requires.place in
    let hears = c.in-Accepted.ensures some.0 some.1 some.2 in
    hears.2.profile ∙ sym some.2.mirrors.profile ∙ c.requires.profile

pub accept-requires-clause-sent : goal.accept-requires-clause-sent
accept-requires-clause-sent c =
    let some = somebody_at c.args.conference.now c.args.place c.requires.running c.requires.place in
    was_sent some.0 some.1 c.args.delivery.now c.args.octets.now c.hear.new.conference c.in-Accepted.accepted some.2.orderly
    (c.in-Accepted.ensures some.0 some.1 some.2)

pub returns-in-Accepted : goal.returns-in-Accepted
returns-in-Accepted c = λ s m at name.
    let octets = c.args.octets.now in
    let hears = c.in-Accepted.ensures s m at in
    let r = (outcome m.endpoint.receiving octets).1 in
    let tells = c.accept.ensures (heard_state s m r) (orderly_kept m.name r s at.orderly) hears.2 in
    accepted_does s m c.args.delivery.now octets c.hear.new.conference c.in-Accepted.accepted c.accept.result c.args.text.now.items c.accept.new.text.items hears name tells
