use Rattle.std.proofs.Common.{arith, length}
use Rattle.std.proofs.lemmas.List.FromFn.{fill_by_all}
use Rattle.perc_kdf.specs.Derivation.{derived, stream_octet}
use Rattle.perc_kdf.proofs.derive.Goals as goal

pub returns-clause-value : goal.returns-clause-value
unfolding derived
returns-clause-value c =
    fill_by_all (stream_octet c.args.key.now c.args.salt.now c.args.label) c.loop-k.out (length c.args.out.now) 0 c.loop-k.invariant.size
    (λ j inside. c.loop-k.invariant.done j (omega arith))
