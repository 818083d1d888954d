use Rattle.perc_srtp.proofs.PacketLaws.{sealed_injective}
use Rattle.perc_srtp.proofs.laws.one_packet.Goals as goal

pub returns : goal.returns
returns c = sealed_injective
