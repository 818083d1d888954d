use Rattle.perc_tunnel.proofs.Streams.{any_pieces}
use Rattle.perc_tunnel.proofs.laws.any_pieces.Goals as goal

pub returns : goal.returns
returns c = any_pieces
