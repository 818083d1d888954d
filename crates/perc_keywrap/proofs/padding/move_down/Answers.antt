use Rattle.std.proofs.Common.{arith}
use Rattle.perc_keywrap.proofs.Prepared.{moved}
use Rattle.perc_keywrap.proofs.padding.move_down.Goals as goal

pub returns : goal.returns
returns c =
    moved c.args.octets.now c.loop-k.octets c.args.len c.loop-k.invariant.size c.requires (λ j below. c.loop-k.invariant.done j (omega arith))
