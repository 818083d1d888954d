use Rattle.perc_keyset.proofs.HistoryLaws.{never_again}
use Rattle.perc_keyset.proofs.laws.never_again.Goals as goal

pub returns : goal.returns
returns c = never_again
