use Rattle.perc_rtp.proofs.HeaderLaws.{padding_comes_off}
use Rattle.perc_rtp.proofs.laws.padding_comes_off.Goals as goal

pub returns : goal.returns
returns c = padding_comes_off
