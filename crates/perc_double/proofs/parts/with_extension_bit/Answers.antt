use Rattle.perc_double.proofs.Building.{extension_bit_set}
use Rattle.perc_double.proofs.parts.with_extension_bit.Goals as goal

pub returns : goal.returns
returns c = extension_bit_set c.args.octet c.ranges.octet.fits
