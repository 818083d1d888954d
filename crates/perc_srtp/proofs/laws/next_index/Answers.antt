use Rattle.perc_srtp.proofs.PacketLaws.{nearest_next, rx_next, tx_first, tx_next}
use Rattle.perc_srtp.proofs.laws.next_index.Goals as goal

pub returns : goal.returns
returns c = record { first = tx_first; nearest = nearest_next; sealed = tx_next; opened = rx_next }
