use Rattle.perc_srtp.proofs.PacketLaws.{rx_once, tx_once}
use Rattle.perc_srtp.proofs.laws.each_index_once.Goals as goal

pub returns : goal.returns
returns c = record { sealed = tx_once; opened = rx_once }
