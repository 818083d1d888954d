use Rattle.std.proofs.Common.{arith}
use Rattle.perc_rtp.proofs.Changing.{reads_fixed, marker_set}
use Rattle.perc_rtp.proofs.fields.set_marker.Goals as goal

pub bounds-packet-1 : goal.bounds-packet-1
bounds-packet-1 c = omega (arith, reads_fixed c.args.packet.now c.requires)

pub bounds-packet-1-2 : goal.bounds-packet-1-2
bounds-packet-1-2 c = omega (arith, reads_fixed c.args.packet.now c.requires)

pub returns : goal.returns
returns c = λ h rest is. marker_set h rest c.args.packet.now c.args.marker c.with_high_bit.result is c.with_high_bit.ensures
