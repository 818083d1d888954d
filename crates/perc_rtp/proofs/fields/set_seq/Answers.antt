use Rattle.std.proofs.Common.{arith, rules}
use Rattle.perc_rtp.proofs.Changing.{reads_fixed, seq_set}
use Rattle.perc_rtp.proofs.fields.set_seq.Goals as goal

pub slice_bounds-write_u16-count : goal.slice_bounds-write_u16-count
slice_bounds-write_u16-count c = omega (arith, reads_fixed c.args.packet.now c.requires)

pub slice_bounds-write_u16-start : goal.slice_bounds-write_u16-start
slice_bounds-write_u16-start c = search (rules, reads_fixed c.args.packet.now c.requires)

pub write_u16-requires : goal.write_u16-requires
write_u16-requires c = grind (arith, reads_fixed c.args.packet.now c.requires)

pub returns : goal.returns
returns c = λ h rest is. seq_set h rest c.args.packet.now c.write_u16.new.buf _ c.args.seq is (omega arith) c.ranges.seq.fits c.write_u16.ensures
