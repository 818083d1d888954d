use Rattle.perc_kdf.specs.Derivation.{session_keys}
use Rattle.perc_kdf.specs.declared.Kind.TheVariants.{Srtcp}
use Rattle.perc_srtp.specs.Streams.{rtcp_opened}
use Rattle.perc_incoming.specs.Control.{outcome_rtcp}
use Rattle.perc_endpoint.proofs.Standing.{control_secrets, receiving_kept}
use Rattle.perc_endpoint.proofs.endpoint.Endpoint.receive_rtcp.Goals as goal

pub invariant_of-self : goal.invariant_of-self
invariant_of-self c =
    let i = c.self.invariant in
    let r = i.stands.0.receiving in
    let d = c.args.datagram.now in
    receiving_kept _ c.receive_rtcp.new.self (outcome_rtcp r d).1 i c.receive_rtcp.ensures.profile (c.receive_rtcp.ensures.stands r i.stands.1.receiving)
    (control_secrets r (rtcp_opened (session_keys r.server Srtcp) r.rtcp d))
