use Rattle.perc_gcm.proofs.GcmLaws.{iv_is_one}
use Rattle.perc_gcm.proofs.laws.one_iv.Goals as goal

pub returns : goal.returns
returns c = iv_is_one
