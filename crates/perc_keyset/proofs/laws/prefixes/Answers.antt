use Rattle.perc_keyset.proofs.HistoryLaws.{prefixes}
use Rattle.perc_keyset.proofs.laws.prefixes.Goals as goal

pub returns : goal.returns
returns c = prefixes
