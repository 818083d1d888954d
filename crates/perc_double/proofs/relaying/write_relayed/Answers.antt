use Rattle.std.proofs.Common.{arith}
use Rattle.std.proofs.lemmas.List.{length-take}
use Rattle.perc_ohb.specs.Rewriting.{rewrite_of}
use Rattle.perc_double.proofs.Answering.{relayed_told}
use Rattle.perc_double.proofs.relaying.write_relayed.Goals as goal

pub returns : goal.returns
returns c = λ h octets o is.
    let parts = c.change_parts-parts.ensures in
    let end = c.change_parts-parts.result.header_len in
    relayed_told h octets o (rewrite_of c.args.change.now) _ _ c.put_body.new.out _ end c.put_body.result
    (record { header = parts.header h octets o is; inner = parts.inner h octets o is; block_is = parts.block h octets o is })
    (omega (arith, length-take end c.change_parts-parts.new.out, parts.within))
    c.put_body.ensures
