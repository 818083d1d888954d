use Rattle.std.proofs.Common.{List, ℕ, ◌++◌, set, drop, sym, ap, ◌∙◌, arith}
use Rattle.std.proofs.lemmas.List.{length-take-le}
use Rattle.perc_rtp.proofs.Changing.{reads_fixed, reads_csrcs, header_cut}
use Rattle.perc_rtp.proofs.fields.cut_header.Goals as goal

pub bounds-packet-0 : goal.bounds-packet-0
bounds-packet-0 c = omega (arith, reads_fixed c.args.packet.now c.requires)

pub slice_bounds-copy_from_slice-end-3 : goal.slice_bounds-copy_from_slice-end-3
slice_bounds-copy_from_slice-end-3 c =
    let within = reads_csrcs c.args.packet.now c.requires in sym (length-take-le c.end_of_csrcs-cut.result c.args.packet.now (omega arith))

pub copy_from_slice-requires : goal.copy_from_slice-requires
copy_from_slice-requires c =
    let n = c.end_of_csrcs-cut.result in
    let within = reads_csrcs c.args.packet.now c.requires in
    length-take-le n c.args.out.now (omega arith) ∙ sym (length-take-le n c.args.packet.now (omega arith))

pub returns-clause-len : goal.returns-clause-len
returns-clause-len c = λ h rest is.
    (header_cut h rest c.args.packet.now c.args.out.now c.end_of_csrcs-cut.result c.without_extension.result is c.end_of_csrcs-cut.ensures.len c.without_extension.ensures).0

pub returns-clause-cut : goal.returns-clause-cut
returns-clause-cut c = λ h rest is.
    let n = c.end_of_csrcs-cut.result in
    let behind : List ℕ = drop n c.args.out.now in
    ap (λ (xs : List ℕ). set (xs ++ behind) 0 c.without_extension.result) c.copy_from_slice.ensures.after
    ∙ (header_cut h rest c.args.packet.now c.args.out.now n c.without_extension.result is c.end_of_csrcs-cut.ensures.len c.without_extension.ensures).1
