use Rattle.std.proofs.Common.{arith, get_or}
use Rattle.std.specs.Prelude.{bit_xor}
use Rattle.std.proofs.lemmas.List.FromFn.{fill_by_all}
use Rattle.perc_srtp.proofs.keys.salted.Goals as goal

pub returns : goal.returns
returns c =
    fill_by_all (λ j. bit_xor (get_or c.args.salt.now j 0) (get_or c.args.octets j 0)) c.loop-k.sum 12 0 c.loop-k.invariant.size
    (λ j inside. c.loop-k.invariant.done j (omega arith))
