use Rattle.perc_keyset.proofs.AcceptingLaws.{each_call}
use Rattle.perc_keyset.proofs.laws.each_call.Goals as goal

pub returns : goal.returns
returns c = each_call
