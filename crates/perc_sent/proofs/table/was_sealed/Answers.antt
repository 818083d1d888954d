use Rattle.std.proofs.Common.{◌≡◌, ℕ, ◌-◌, ◌≤◌, ap, ◌∙◌, sym, arith, rules, Bool, false, true, ◌&&◌, List, length, take, drop}
use Rattle.std.specs.Str.{bytes_eq}
use Rattle.std.proofs.lemmas.List.{length-take-le}
use Rattle.perc_rtp.specs.Fields.{cut}
use Rattle.perc_receiver.specs.Opener.{same_header}
use Rattle.perc_sent.proofs.Packets.{header_told, inner_told}
use Rattle.perc_sent.proofs.table.was_sealed.Goals as goal

pub cut_header-len-requires : goal.cut_header-len-requires
cut_header-len-requires c = (c.requires.0.header, _, c.requires.1.reads)

pub slice_bounds-room-end : goal.slice_bounds-room-end
slice_bounds-room-end c =
    let within = c.cut_header-len.ensures.within in
    omega arith

pub slice_bounds-eq-end : goal.slice_bounds-eq-end
slice_bounds-eq-end c =
    let within = c.cut_header-len.ensures.within in
    let room : c.cut_header-len.result ≤ length c.cut_header-len.new.out = omega arith in
    sym (length-take-le c.cut_header-len.result c.cut_header-len.new.out room)

pub slice_bounds-eq-count : goal.slice_bounds-eq-count
slice_bounds-eq-count c =
    let parts = c.parts-parts.ensures c.requires.0.header c.requires.0.inner c.requires.0.block c.requires.1 in
    let header = parts.header in
    let inner = parts.inner_is in
    omega arith

pub slice_bounds-eq-start : goal.slice_bounds-eq-start
slice_bounds-eq-start c =
    let parts = c.parts-parts.ensures c.requires.0.header c.requires.0.inner c.requires.0.block c.requires.1 in
    let header = parts.header in
    let inner = parts.inner_is in
    let low : c.parts-parts.result.header ≤ c.parts-parts.result.inner = omega arith in
    search (rules, low)

pub slice_bounds-eq-end-then-eq : goal.slice_bounds-eq-end-then-eq
slice_bounds-eq-end-then-eq c =
    let parts = c.parts-parts.ensures c.requires.0.header c.requires.0.inner c.requires.0.block c.requires.1 in
    let within = parts.within in
    let value = ap length c.deref.ensures.value in
    let low : c.parts-parts.result.inner ≤ length c.deref.result.now = omega arith in
    search (rules, low)

pub returns-then-eq : goal.returns-then-eq
returns-then-eq c u h is packet =
    let parts = c.parts-parts.ensures u.header u.inner u.block is in
    let size = c.cut_header-len.ensures.len u.header _ is.reads in
    let out = c.cut_header-len.ensures.value u.header _ is.reads in
    let header : same_header (cut u.header) h ≡ true =
    header_told u h c.args.unsealed.now.packet.items c.cut_header-len.new.out _ c.args.question.now.header.now c.cut_header-len.result is packet out size
    ∙ sym c.eq.ensures
    ∙ c.if-eq.true in
    let inner = inner_told u c.args.unsealed.now.packet.items c.parts-parts.result is parts in
    let octets =
    ap (λ (xs : List ℕ). take (c.parts-parts.result.inner - c.parts-parts.result.header) (drop c.parts-parts.result.header xs)) c.deref.ensures.value ∙ inner in
    c.eq-then-eq.ensures
    ∙ ap (λ (xs : List ℕ). bytes_eq xs c.args.question.now.octets.now) octets
    ∙ ap (λ (b : Bool). b && bytes_eq u.inner c.args.question.now.octets.now) (sym header)

pub returns-else-eq : goal.returns-else-eq
returns-else-eq c u h is packet =
    let size = c.cut_header-len.ensures.len u.header _ is.reads in
    let out = c.cut_header-len.ensures.value u.header _ is.reads in
    let header : same_header (cut u.header) h ≡ false =
    header_told u h c.args.unsealed.now.packet.items c.cut_header-len.new.out _ c.args.question.now.header.now c.cut_header-len.result is packet out size
    ∙ sym c.eq.ensures
    ∙ c.if-eq.false in
    c.if-eq.false ∙ ap (λ (b : Bool). b && bytes_eq u.inner c.args.question.now.octets.now) (sym header)
