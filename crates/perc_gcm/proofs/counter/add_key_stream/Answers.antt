use Rattle.std.proofs.Common.{◌*◌, ◌-◌, drop, arith}
use Rattle.std.proofs.lemmas.List.{length-take, length-drop}
use Rattle.perc_gcm.proofs.KeyStream.{streamed_all, streamed_more}
use Rattle.perc_gcm.proofs.counter.add_key_stream.Goals as goal

pub loop-i-preserved : goal.loop-i-preserved
loop-i-preserved c =
    streamed_more c.args.key.now c.args.iv.now c.args.text.now c.loop-i.text c.masked_counter-mask.result c.add_part.new.octets c.loop-i.i
    (c.min-end.result - 16 * c.loop-i.i) c.loop-i.invariant (omega (arith, c.div_ceil-i-end.ensures)) (omega (arith, c.min-end.ensures))
    c.masked_counter-mask.ensures
    (omega (arith, c.add_part.auto.octets, c.min-end.ensures, length-take (c.min-end.result - 16 * c.loop-i.i) (drop (16 * c.loop-i.i) c.loop-i.text), length-drop (16 * c.loop-i.i) c.loop-i.text))
    (λ k h. c.add_part.ensures k (omega (arith, c.min-end.ensures, length-take (c.min-end.result - 16 * c.loop-i.i) (drop (16 * c.loop-i.i) c.loop-i.text), length-drop (16 * c.loop-i.i) c.loop-i.text)))

pub returns : goal.returns
returns c =
    streamed_all c.args.key.now c.args.iv.now c.args.text.now c.loop-i.text c.loop-i.i c.loop-i.invariant (omega (arith, c.div_ceil-i-end.ensures))
