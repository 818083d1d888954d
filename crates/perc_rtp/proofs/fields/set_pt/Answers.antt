use Rattle.std.proofs.Common.{arith}
use Rattle.perc_rtp.proofs.Changing.{reads_fixed, pt_set}
use Rattle.perc_rtp.proofs.fields.set_pt.Goals as goal

pub bounds-packet-1 : goal.bounds-packet-1
bounds-packet-1 c = omega (arith, reads_fixed c.args.packet.now c.requires.reads)

pub bounds-packet-1-2 : goal.bounds-packet-1-2
bounds-packet-1-2 c = omega (arith, reads_fixed c.args.packet.now c.requires.reads)

pub returns : goal.returns
returns c = λ h rest is. pt_set h rest c.args.packet.now c.args.pt c.with_low_bits.result is c.requires.pt c.with_low_bits.ensures
