use Rattle.perc_gcm.proofs.Multiples.{times_x4_is}
use Rattle.perc_gcm.proofs.field.times_x4.Goals as goal

pub returns : goal.returns
returns c = times_x4_is c.args.element
