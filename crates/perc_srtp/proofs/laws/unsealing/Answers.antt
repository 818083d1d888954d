use Rattle.perc_srtp.proofs.PacketLaws.{forged_body, forged_opens, sealed_opens, unsealed_as_sealed}
use Rattle.perc_srtp.proofs.RtcpLaws.{forged_rtcp, forged_rtcp_opens, rtcp_as_sealed, rtcp_opens}
use Rattle.perc_srtp.proofs.laws.unsealing.Goals as goal

pub returns : goal.returns
returns c = record {
  body = λ keys index h octets body. (unsealed_as_sealed keys index h octets body, sealed_opens keys index h octets body);
  no_body = λ keys index h octets. (forged_body keys index h octets, forged_opens keys index h octets);
  rtcp = λ keys index packet plain. (rtcp_as_sealed keys index packet plain, λ was. rtcp_opens keys index packet plain was.1 was.0);
  no_rtcp = λ keys index packet. (forged_rtcp keys index packet, forged_rtcp_opens keys index packet);
}
