use Rattle.perc_srtp.proofs.PacketLaws.{body_index, one_index}
use Rattle.perc_srtp.proofs.RtcpLaws.{rtcp_one_index}
use Rattle.perc_srtp.proofs.laws.one_index.Goals as goal

pub returns : goal.returns
returns c = record { rtp = one_index; body = body_index; rtcp = rtcp_one_index }
