use Rattle.perc_forwarding.proofs.Matching.{once_in_set}
use Rattle.perc_forwarding.proofs.laws.each_entry_once.Goals as goal

pub returns : goal.returns
returns c = once_in_set
