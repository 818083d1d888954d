use Rattle.perc_aes.proofs.CipherLaws.{IsBlock-aes, aes_injective, aes_onto}
use Rattle.perc_aes.proofs.laws.bijection.Goals as goal

pub returns-clause-blocks : goal.returns-clause-blocks
returns-clause-blocks c = IsBlock-aes

pub returns-clause-injective : goal.returns-clause-injective
returns-clause-injective c = aes_injective

pub returns-clause-surjective : goal.returns-clause-surjective
returns-clause-surjective c = aes_onto
