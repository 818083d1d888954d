use Rattle.perc_ohb.proofs.BlockLaws.{one_block}
use Rattle.perc_ohb.proofs.laws.one_block.Goals as goal

pub returns : goal.returns
returns c = one_block
