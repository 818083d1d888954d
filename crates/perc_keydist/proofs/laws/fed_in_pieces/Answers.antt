use Rattle.perc_keydist.proofs.PieceLaws.{two_feeds}
use Rattle.perc_keydist.proofs.laws.fed_in_pieces.Goals as goal

pub returns : goal.returns
returns c = two_feeds
