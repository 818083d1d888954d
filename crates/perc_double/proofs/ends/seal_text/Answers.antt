use Rattle.std.proofs.Common.{refl}
use Rattle.perc_rtp.specs.Fields.{cut}
use Rattle.perc_double.proofs.Building.{front_header, head_len, text_sealed}
use Rattle.perc_double.proofs.ends.seal_text.Goals as goal

pub seal_behind-requires-clause-reads : goal.seal_behind-requires-clause-reads
seal_behind-requires-clause-reads c =
    let was = c.requires.reads in
    (cut was.0, front_header was.0 c.cut_header-cut.new.out _ c.cut_header-cut.result was.2.header (c.cut_header-cut.ensures.len was.0 was.1 was.2) (c.cut_header-cut.ensures.cut was.0 was.1 was.2))

pub returns-clause-sealed : goal.returns-clause-sealed
returns-clause-sealed c = λ h body is.
    let header = front_header h c.cut_header-cut.new.out _ c.cut_header-cut.result is.header (c.cut_header-cut.ensures.len h body is) (c.cut_header-cut.ensures.cut h body is) in
    let len = head_len h c.read.result c.unwrap-head.result (c.read.ensures.only h body is) c.unwrap-head.ensures in
    text_sealed c.args.inner.now c.args.index h body c.args.packet.now _ c.seal_behind.new.body c.seal_behind.result c.unwrap-head.result.len
    (record { reads = is; len = len; text = refl; is_sealed = c.seal_behind.ensures.sealed (cut h) header })
