use Rattle.std.proofs.Common.{◌≡◌, ℕ, ◌+◌, ◌-◌, ◌*◌, ◌≤◌, List, ◌++◌, length, drop, refl, sym, ap, ◌∙◌, arith}
use Rattle.std.specs.List.{flat_map}
use Rattle.std.proofs.lemmas.List.{length-append}
use borrow.Rule.Slice.PartMut.{put_mid}
use Rattle.byteorder.specs.Endian.{big_bytes}
use Rattle.perc_rtp.specs.Header.{Header, fixed_octets, extension_octets, spelling}
use Rattle.perc_rtp.specs.Media.{content_of, header_of, rest_of, padding_octets}
use Rattle.perc_rtp.proofs.Writing.{fits_without_fault, written_more, parts_are, spelling-length, padding-length, fours_length}
use Rattle.perc_rtp.proofs.media.write_whole.Goals as goal

pub returns-clause-len : goal.returns-clause-len
returns-clause-len c =
    let m = c.args.media.now in
    let h : Header = header_of (content_of m) c.args.seq c.args.ssrc in
    let whole = length-append (spelling h) (rest_of (content_of m)) in
    let rest = length-append m.payload.now (padding_octets m.pad) in
    omega (arith, whole, rest, spelling-length h, padding-length m.pad, c.write_extension.ensures.len, c.from.ensures)

pub returns-clause-written : goal.returns-clause-written
returns-clause-written c =
    let m = c.args.media.now in
    let old = c.args.out.now in
    let h : Header = header_of (content_of m) c.args.seq c.args.ssrc in
    let csrcs : List ℕ = flat_map (big_bytes 4) m.csrcs.now in
    let extension : List ℕ = extension_octets (content_of m).extension in
    let cut : ℕ = 12 + 4 * length m.csrcs.now in
    let len : ℕ = cut + c.write_extension.result in
    let end : ℕ = len + length m.payload.now in
    let o1 = c.write_fixed.new.out in
    let o2 = put_mid 12 (length o1 - 12) o1 c.write_csrcs.new.out in
    let o3 = put_mid cut (length o2 - cut) o2 c.write_extension.new.out in
    let o4 = put_mid len (length o3 - len) o3 c.write_octets.new.out in
    let w2 : List ℕ = fixed_octets h ++ csrcs in
    let w3 : List ℕ = w2 ++ extension in
    let w4 : List ℕ = w3 ++ m.payload.now in
    let l2 : length w2 ≡ cut = length-append (fixed_octets h) csrcs ∙ ap (λ (n : ℕ). 12 + n) (fours_length m.csrcs.now) in
    let l3 : length w3 ≡ len = length-append w2 extension ∙ ap (λ (n : ℕ). n + length extension) l2 ∙ ap (λ (n : ℕ). cut + n) (sym c.write_extension.ensures.len) in
    let l4 : length w4 ≡ end = length-append w3 m.payload.now ∙ ap (λ (n : ℕ). n + length m.payload.now) l3 in
    let fits = fits_without_fault (content_of m) c.requires.fault in
    let f2 : 12 + 4 * length m.csrcs.now ≤ length old = omega arith in
    let f3 : cut + c.write_extension.result ≤ length old = omega (arith, c.write_extension.ensures.within) in
    let f4 : len + length m.payload.now ≤ length old = omega (arith, c.write_extension.ensures.within) in
    let f5 : end + m.pad ≤ length old = omega (arith, c.write_extension.ensures.within) in
    let e2 = written_more (fixed_octets h) csrcs old o1 _ 12 (4 * length m.csrcs.now) refl (fours_length m.csrcs.now) f2 c.write_fixed.ensures.written c.write_csrcs.ensures.written in
    let e3 = written_more w2 extension old o2 c.write_extension.new.out cut c.write_extension.result l2 (sym c.write_extension.ensures.len) f3 e2 c.write_extension.ensures.written in
    let e4 = written_more w3 m.payload.now old o3 c.write_octets.new.out len (length m.payload.now) l3 refl f4 e3 c.write_octets.ensures in
    let e5 = written_more w4 (padding_octets m.pad) old o4 c.write_padding.new.out end m.pad l4 (padding-length m.pad) f5 e4 c.write_padding.ensures in
    e5 ∙ rw c.from.ensures (ap (λ (r : List ℕ). r ++ drop (end + m.pad) old) (parts_are h m.payload.now (padding_octets m.pad)))
