use Rattle.perc_ekt.proofs.Keys.{key_in_is}
use Rattle.perc_ekt.proofs.laws.one_key.Goals as goal

pub returns : goal.returns
returns c = λ size plain k fits. key_in_is size plain k fits
