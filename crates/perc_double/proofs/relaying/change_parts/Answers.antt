use Rattle.std.proofs.Common.{ℕ, [], refl, ap, ◌∙◌, arith}
use Rattle.std.proofs.lemmas.List.{take_at}
use Rattle.perc_ohb.specs.declared.block.Ohb.{Ohb}
use Rattle.perc_ohb.specs.Rewriting.{block_after, rewrite_of}
use Rattle.std.specs.Option.{unwrap_or}
use Rattle.perc_rtp.specs.Fields.{with_extension}
use Rattle.perc_rtp.specs.Header.{Header}
use Rattle.perc_double.proofs.Building.{head_len}
use Rattle.perc_double.proofs.Answering.{ends_in, octets_are, ok_same}
use Rattle.perc_double.proofs.relaying.change_parts.Goals as goal

pub unwrap-block-requires : goal.unwrap-block-requires
unwrap-block-requires c =
    let was = c.requires.reads in
    let n_is = head_len was.0 c.read.result c.unwrap-head.result (c.read.ensures.only was.0 _ was.3.reads) c.unwrap-head.ensures in
    rw (c.read_end.ensures.only was.2 was.1 (ends_in was.0 was.1 was.2 c.args.packet.now _ c.unwrap-head.result.len (record { opened = was.3; len = n_is; part = refl }))) refl

pub returns-clause-header : goal.returns-clause-header
returns-clause-header c = λ h octets o is.
    let change = rewrite_of c.args.change.now in
    let g : Header = with_extension (unwrap_or change.extension h.extension) h in
    let n = c.write_header-header_len.result in
    let changed = c.rewrite.ensures.header g [] (c.write_header-header_len.ensures.header h _ is.reads) in
    let front = take_at c.rewrite.new.header _ n (omega arith) in
    record { header = changed.header; octets = front ∙ changed.octets }

pub returns-clause-inner : goal.returns-clause-inner
returns-clause-inner c = λ h octets o is.
    let n_is = head_len h c.read.result c.unwrap-head.result (c.read.ensures.only h _ is.reads) c.unwrap-head.ensures in
    let found = ok_same _ _ c.read_end.result c.unwrap-block.ensures
    (c.read_end.ensures.only o octets (ends_in h octets o c.args.packet.now _ c.unwrap-head.result.len (record { opened = is; len = n_is; part = refl }))) in
    octets_are h octets o c.args.packet.now c.unwrap-head.result.len _ is.reads n_is (ap (λ (r : Ohb × ℕ). r.1) found)

pub returns-clause-block : goal.returns-clause-block
returns-clause-block c = λ h octets o is.
    let change = rewrite_of c.args.change.now in
    let g : Header = with_extension (unwrap_or change.extension h.extension) h in
    let n_is = head_len h c.read.result c.unwrap-head.result (c.read.ensures.only h _ is.reads) c.unwrap-head.ensures in
    let found = ok_same _ _ c.read_end.result c.unwrap-block.ensures
    (c.read_end.ensures.only o octets (ends_in h octets o c.args.packet.now _ c.unwrap-head.result.len (record { opened = is; len = n_is; part = refl }))) in
    c.rewrite.ensures.block g [] (c.write_header-header_len.ensures.header h _ is.reads) ∙ ap (λ (k : Ohb). block_after g k change) (ap (λ (r : Ohb × ℕ). r.0) found)
