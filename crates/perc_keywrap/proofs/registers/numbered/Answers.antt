use Rattle.std.proofs.Common.{arith}
use Rattle.perc_keywrap.proofs.Steps.{numbered_filled}
use Rattle.perc_keywrap.proofs.registers.numbered.Goals as goal

pub returns : goal.returns
returns c =
    numbered_filled c.args.block c.loop-k.sum c.args.number (omega arith) c.loop-k.invariant.size
    (λ k inside. c.loop-k.invariant.done k (omega arith))
    (λ k past. c.loop-k.invariant.left k (omega arith))
