use Rattle.perc_srtp.proofs.PacketLaws.{rx_is_nearest, tx_is_nearest}
use Rattle.perc_srtp.proofs.laws.nearest_index.Goals as goal

pub returns : goal.returns
returns c = record { sealed = tx_is_nearest; opened = rx_is_nearest }
