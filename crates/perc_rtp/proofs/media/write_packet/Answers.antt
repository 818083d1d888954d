use Rattle.std.proofs.Common.{List, ℕ, ◌++◌, take, drop, sym, ap, ◌∙◌}
use Rattle.std.proofs.lemmas.List.{take_at, drop_at}
use Rattle.perc_rtp.specs.Header.{spelling}
use Rattle.perc_rtp.specs.Media.{content_of, header_of, rest_of}
use Rattle.perc_rtp.proofs.media.write_packet.Goals as goal

pub returns-clause-packet : goal.returns-clause-packet
returns-clause-packet c =
    let w = c.write_whole in
    let whole : List ℕ = spelling (header_of (content_of c.args.media.now) c.args.seq c.args.ssrc) ++ rest_of (content_of c.args.media.now) in
    let behind : List ℕ = drop w.result c.args.out.now in (
      w.ensures.within,
      record { header = w.ensures.header; octets = ap (take w.result) w.ensures.written ∙ take_at whole behind w.result (sym w.ensures.len) },
      ap (drop w.result) w.ensures.written ∙ drop_at whole behind w.result (sym w.ensures.len),
    )
