use Rattle.perc_gcm.proofs.Multiples.{times_x8_is}
use Rattle.perc_gcm.proofs.field.times_x8.Goals as goal

pub returns : goal.returns
returns c = times_x8_is c.args.element
