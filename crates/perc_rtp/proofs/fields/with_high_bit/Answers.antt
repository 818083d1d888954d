use Rattle.perc_rtp.proofs.Changing.{high_bit_set, high_bit_cleared}
use Rattle.perc_rtp.proofs.fields.with_high_bit.Goals as goal
use Rattle.perc_rtp.proofs.fields.with_high_bit.Goals.{then-marker, else-marker}

pub returns : goal.returns
returns c =
    let set = high_bit_set c.args.octet c.ranges.octet.fits in
    let cleared = high_bit_cleared c.args.octet c.ranges.octet.fits in
    elim c.if-marker.branch [ then-marker w ↦ cc | else-marker w ↦ cc ]
