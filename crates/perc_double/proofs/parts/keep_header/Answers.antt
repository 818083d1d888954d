use Rattle.perc_double.proofs.Building.{head_len, header_kept}
use Rattle.perc_double.proofs.parts.keep_header.Goals as goal

pub returns-clause-header : goal.returns-clause-header
returns-clause-header c = λ h rest is.
    header_kept h rest c.args.packet.now c.copy_from_slice.new.self _ c.unwrap-len.result.len is
    (head_len h c.read.result c.unwrap-len.result (c.read.ensures.only h rest is) c.unwrap-len.ensures) c.copy_from_slice.ensures.after
