use Rattle.perc_keyset.proofs.SetLaws.{IsSetOf-fold}
use Rattle.perc_keyset.proofs.laws.set_of.Goals as goal

pub returns : goal.returns
returns c = λ ops history. IsSetOf-fold ops
