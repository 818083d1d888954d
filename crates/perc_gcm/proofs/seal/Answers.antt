use Rattle.perc_gcm.specs.Gcm.{Verifies}
use Rattle.perc_gcm.proofs.GcmLaws.{sealed_as}
use Rattle.perc_gcm.proofs.seal.Goals as goal

pub returns-clause-verifies : goal.returns-clause-verifies
unfolding Verifies
returns-clause-verifies c = c.tag_of.ensures.value

pub returns-clause-sealed : goal.returns-clause-sealed
returns-clause-sealed c =
    sealed_as c.args.key.now c.args.iv.now c.args.aad.now c.args.text.now _ _ c.add_key_stream.ensures c.tag_of.ensures.value
