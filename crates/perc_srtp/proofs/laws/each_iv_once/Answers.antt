use Rattle.perc_srtp.proofs.PacketLaws.{iv_injective, rtcp_iv_injective}
use Rattle.perc_srtp.proofs.laws.each_iv_once.Goals as goal

pub returns : goal.returns
returns c = record { rtp = iv_injective; rtcp = rtcp_iv_injective }
