use Rattle.perc_srtp.proofs.Streaming.{rtcp_genuine_opens, rtcp_opens_as_sealed, rtcp_sealed_opens, rx_opens_as_sealed, rx_sealed_opens}
use Rattle.perc_srtp.proofs.laws.opening.Goals as goal

pub returns : goal.returns
returns c = record {
  rtp = λ keys before h rest index body. (rx_opens_as_sealed keys before h rest index body, λ was. rx_sealed_opens keys before h rest index body was.0 was.1);
  rtcp = λ keys before packet index plain. (rtcp_opens_as_sealed keys before packet index plain, λ was. rtcp_sealed_opens keys before packet index plain was.0 was.1 was.2);
  rtcp_fresh = rtcp_genuine_opens;
}
