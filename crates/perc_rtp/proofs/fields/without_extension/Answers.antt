use Rattle.perc_rtp.proofs.Changing.{extension_cleared}
use Rattle.perc_rtp.proofs.fields.without_extension.Goals as goal

pub returns : goal.returns
returns c = cc (extension_cleared c.args.octet c.ranges.octet.fits)
