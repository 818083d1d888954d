use Rattle.std.proofs.Common.{sym, arith, rules}
use Rattle.perc_ohb.proofs.BlockLaws.{stands, reads, refused, too_short, read_is}
use Rattle.perc_ohb.proofs.ReadingLaws.{block_read, config_refused, pt_refused, short_refused}
use Rattle.perc_ohb.proofs.block.Ohb.read_end.Goals as goal

pub returns-in_err-config-clause-only : goal.returns-in_err-config-clause-only
returns-in_err-config-clause-only c = λ o before is. refused _ _ _ c.in_err-config.ensures (stands o before c.args.bytes.now is).config

pub returns-then-bytes-len-clause-only : goal.returns-then-bytes-len-clause-only
returns-then-bytes-len-clause-only c = λ o before is. too_short o before c.args.bytes.now _ _ is c.in_ok-config.ensures c.len_by-len.ensures.value c.if-bytes-len.true

pub returns-in_err-pt-clause-only : goal.returns-in_err-pt-clause-only
returns-in_err-pt-clause-only c = λ o before is. refused _ _ _ c.in_err-pt.ensures (stands o before c.args.bytes.now is).pt

pub returns-clause-ok : goal.returns-clause-ok
returns-clause-ok c =
    reads c.args.bytes.now c.in_ok-config.config c.len_by-len.result c.in_ok-pt.pt c.read_seq-seq.result c.read_marker-marker.result (λ i. (c.type_inv.bytes i).fits) (sym c.in_ok-config.ensures)
    c.len_by-len.ensures.value c.if-bytes-len.false (sym c.in_ok-pt.ensures) c.read_seq-seq.ensures c.read_marker-marker.ensures

pub returns-clause-only : goal.returns-clause-only
returns-clause-only c = λ o before is.
    read_is o before c.args.bytes.now _ _ _ _ _ is c.in_ok-config.ensures c.len_by-len.ensures.value c.in_ok-pt.ensures c.read_seq-seq.ensures c.read_marker-marker.ensures

pub returns-in_err-config-clause-answer : goal.returns-in_err-config-clause-answer
returns-in_err-config-clause-answer c = rw (config_refused c.args.bytes.now _ (sym c.in_err-config.ensures)) (search rules)

pub returns-then-bytes-len-clause-answer : goal.returns-then-bytes-len-clause-answer
returns-then-bytes-len-clause-answer c = rw (short_refused c.args.bytes.now c.in_ok-config.config (sym c.in_ok-config.ensures) (omega (arith, c.len_by-len.ensures.value))) (search rules)

pub returns-in_err-pt-clause-answer : goal.returns-in_err-pt-clause-answer
returns-in_err-pt-clause-answer c =
    let config = sym c.in_ok-config.ensures in
    rw (pt_refused c.args.bytes.now c.in_ok-config.config _ config (omega (arith, c.len_by-len.ensures.value)) (sym c.in_err-pt.ensures)) (search rules)

pub returns-clause-answer : goal.returns-clause-answer
returns-clause-answer c =
    let is = returns-clause-ok c in
    rw (block_read _ is.0 c.args.bytes.now is.1) (returns-clause-only c _ is.0 is.1)
