use Rattle.std.proofs.Common.{ap, arith, rules}
use Rattle.std.proofs.lemmas.List.{length-take}
use Rattle.perc_rtp.specs.declared.head.RtpHead.{RtpHead}
use Rattle.perc_rtp.proofs.HeaderLaws.{header_within}
use Rattle.perc_format_tests.proofs.double.gives_back.Goals as goal

pub slice_bounds-opens_to-count : goal.slice_bounds-opens_to-count
slice_bounds-opens_to-count c =
    let read = c.in-Ok.ensures.ok in
    omega (arith, header_within read.0 read.1 _ read.2, ap (λ (r : RtpHead). r.len) read.3, length-take c.size-len.result c.spelled-want.result)

pub slice_bounds-opens_to-start : goal.slice_bounds-opens_to-start
slice_bounds-opens_to-start c = search (rules, slice_bounds-opens_to-count c)
