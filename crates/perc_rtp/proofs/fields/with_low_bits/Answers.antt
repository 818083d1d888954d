use Rattle.perc_rtp.proofs.Changing.{low_bits_set}
use Rattle.perc_rtp.proofs.fields.with_low_bits.Goals as goal

pub returns : goal.returns
returns c = cc (low_bits_set c.args.octet c.args.pt c.ranges.octet.fits c.requires)
