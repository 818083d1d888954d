use Rattle.perc_outgoing.specs.Sending.{rtcp_send_fault}
use Rattle.perc_endpoint.specs.Endpoint.{departing_rtcp}
use Rattle.perc_endpoint.proofs.Standing.{rtcp_departure_stands, sending_kept}
use Rattle.perc_endpoint.proofs.endpoint.Endpoint.send_rtcp.Goals as goal

pub invariant_of-self : goal.invariant_of-self
invariant_of-self c =
    let i = c.self.invariant in
    let e = i.stands.0 in
    let plain = c.args.plain.now in
    let fault = rtcp_send_fault e.sending plain in
    sending_kept _ c.send_rtcp.new.self (departing_rtcp e plain fault).1.sending i c.send_rtcp.ensures.granted
    (rtcp_departure_stands e plain fault c.send_rtcp.result _ c.send_rtcp.new.self c.send_rtcp.new.out _ i.stands.1.sending (c.send_rtcp.ensures.answer e.sending i.stands.1.sending)
    c.send_rtcp.ensures.refused)
