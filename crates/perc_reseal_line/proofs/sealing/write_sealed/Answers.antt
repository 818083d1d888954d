use Rattle.std.proofs.Common.{◌≡◌, ◌<◌, None, length, arith}
use Rattle.perc_ohb.specs.Rewriting.{block_after, rewrite_of}
use Rattle.perc_double.specs.Double.{opened, relayed}
use Rattle.perc_reseal_line.specs.Anew.{sealed_behind}
use Rattle.perc_reseal_line.proofs.Octets.{length_behind, written}
use Rattle.perc_reseal_line.proofs.sealing.write_sealed.Goals as goal

pub returns-in_err-len-clause-octets : goal.returns-in_err-len-clause-octets
returns-in_err-len-clause-octets c = λ h inner o is.
    let change = rewrite_of c.args.change.now in
    let long = c.in_err-len.ensures.packet h inner o is in
    let over : 1500 < length (sealed_behind c.args.keys.now c.args.roc (relayed h change) inner (block_after h o change) c.args.field.now) =
    omega (arith, long, length_behind c.args.keys.now c.args.roc (relayed h change) inner (block_after h o change) c.args.field.now) in
    let none : c.from_residual.result ≡ None = c.from_residual.ensures in
    rw none over

pub returns-clause-octets : goal.returns-clause-octets
returns-clause-octets c = λ h inner o is.
    let change = rewrite_of c.args.change.now in
    let g = relayed h change in
    let k = block_after h o change in
    let made = c.in_ok-len.ensures.packet h inner o is in
    written c.args.keys.now c.args.roc g inner k c.args.field.now c.write_changed.new.out c.seal_at-end.new.packet c.put_field.new.out c.index_of-index.result c.in_ok-len.len c.seal_at-end.result c.put_field.result
    made.0 c.seal_at-end.ensures.len (c.index_of-index.ensures.value g (opened inner k) made.1) (c.seal_at-end.ensures.sealed g (opened inner k) made.1) c.put_field.ensures.octets
