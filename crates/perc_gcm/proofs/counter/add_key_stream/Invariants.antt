use Rattle.perc_gcm.proofs.KeyStream.{Streamed}
use Rattle.perc_gcm.proofs.counter.add_key_stream.Given as goal

abbrev pub invariant-loop-i : goal.invariant-loop-i
invariant-loop-i l = Streamed l.key l.iv l.fn.text l.text l.i
