use Rattle.perc_rtp.specs.Media.{content_of}
use Rattle.perc_outgoing.specs.Sending.{send_fault}
use Rattle.perc_endpoint.specs.Endpoint as spec
use Rattle.perc_endpoint.specs.Endpoint.{departing}
use Rattle.perc_endpoint.specs.Kept.{StandsFor}
use Rattle.perc_endpoint.proofs.Standing.{added, departed_stands, departure_is, departure_stands, sending_kept}
use Rattle.perc_endpoint.proofs.endpoint.Endpoint.send.Goals as goal

pub invariant_of-self : goal.invariant_of-self
invariant_of-self c =
    let i = c.self.invariant in
    let e = i.stands.0 in
    let content = content_of c.args.media.now in
    let fault = send_fault e.sending content in
    sending_kept _ c.send.new.self (departing e content fault).1.sending i c.send.ensures.granted
    (departure_stands e content fault c.send.result _ c.send.new.self c.send.new.out _ i.stands.1.sending (c.send.ensures.answer e.sending i.stands.1.sending) c.send.ensures.refused)

pub returns-clause-answer : goal.returns-clause-answer
returns-clause-answer c = λ e stands.
    let s = rw (← c.self.view_is) at stands in
    let content = content_of c.args.media.now in
    departure_is e content (send_fault e.sending content) c.send.result c.send.new.self c.send.new.out (c.send.ensures.answer e.sending s.sending)

pub returns-clause-stands : goal.returns-clause-stands
returns-clause-stands c = λ e stands.
    let s = rw (← c.self.view_is) at stands in
    let content = content_of c.args.media.now in
    let fault = send_fault e.sending content in
    departed_stands _ c.send.new.self e content fault s
    (departure_stands e content fault c.send.result _ c.send.new.self c.send.new.out _ s.sending (c.send.ensures.answer e.sending s.sending) c.send.ensures.refused)

pub returns-clause-added : goal.returns-clause-added
returns-clause-added c =
    added c.self.inside.outgoing c.send.new.self (content_of c.args.media.now) c.send.result c.send.new.out (StandsFor c.args.self.now)
    (λ e stands. (rw (← c.self.view_is) at stands).sending) c.known_media.ensures
    (λ e stands. c.send.ensures.answer e.sending (rw (← c.self.view_is) at stands).sending)
