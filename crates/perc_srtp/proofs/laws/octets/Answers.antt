use Rattle.perc_srtp.proofs.PacketLaws.{length-sealed_body, sealed_body_octets}
use Rattle.perc_srtp.proofs.RtcpLaws.{length-sealed_rtcp, sealed_rtcp_octets}
use Rattle.perc_srtp.proofs.laws.octets.Goals as goal

pub returns : goal.returns
returns c = record {
  body_length = length-sealed_body;
  body_octets = sealed_body_octets;
  rtcp_length = length-sealed_rtcp;
  rtcp_octets = sealed_rtcp_octets;
}
