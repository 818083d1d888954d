use Rattle.perc_double.proofs.RelayLaws.{relayed_once}
use Rattle.perc_double.proofs.laws.each_index_once.Goals as goal

pub returns : goal.returns
returns c = relayed_once
