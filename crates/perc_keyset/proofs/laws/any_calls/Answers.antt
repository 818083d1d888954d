use Rattle.perc_keyset.proofs.AcceptingLaws.{any_calls}
use Rattle.perc_keyset.proofs.laws.any_calls.Goals as goal

pub returns : goal.returns
returns c = any_calls
