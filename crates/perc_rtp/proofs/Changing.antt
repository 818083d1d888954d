-- One octet of a header changed: what it says of the header, and of the octets around it.
use Rattle.std.proofs.Common.{◌≡◌, ℕ, ◌+◌, ◌-◌, ◌*◌, ◌/◌, ◌%◌, ◌^◌, ◌<◌, ◌≤◌, Bool, true, false, List, [], ◌∷◌, ◌++◌, length, take, drop, map, get_or, set, bit_and, bit_or, refl, sym, ap, ◌∙◌, append_assoc, arith}
use Rattle.std.specs.Prelude.{is_some}
use Rattle.std.specs.List.{range_with_len, flat_map}
use Rattle.std.proofs.lemmas.Nat.{or_shifted}
use Rattle.std.proofs.lemmas.List.{append-nil, take_at, length-append}
use Rattle.std.proofs.lemmas.List.FromFn.{get_or-map-range_with_len}
use borrow.Rule.Slice.PartMut.{put_mid, mid_of}
use Rattle.byteorder.specs.Endian.{big_bytes}
use Rattle.perc_rtp.specs.Header.{Header, bit, first_octet, second_octet, fixed_octets, extension_octets, spelling, IsPacket, cut_len}
use Rattle.perc_rtp.specs.Fields.{IsRtp, with_pt, with_seq, with_marker, cut}
use Rattle.perc_rtp.proofs.Writing.{written_more, fours_length, spelling-length}
use Rattle.perc_rtp.proofs.Reading.{bit-le, packet_again}
use Rattle.perc_rtp.proofs.HeaderLaws.{IsHeader-with_pt, IsHeader-with_seq, IsHeader-with_marker}

-- ---- single octets

-- what a computed test says of each octet
tested : (f g : ℕ → ℕ) → map f (range_with_len 0 256) ≡ map g (range_with_len 0 256) → (octet : ℕ) → octet < 256 → f octet ≡ g octet
tested f g same octet fits =
    sym (get_or-map-range_with_len f 0 256 octet octet 0 fits (omega arith))
    ∙ ap (λ (xs : List ℕ). get_or xs octet 0) same
    ∙ get_or-map-range_with_len g 0 256 octet octet 0 fits (omega arith)

high_bit : (octet : ℕ) → octet < 256 → bit_and octet 128 ≡ octet / 128 * 2 ^ 7
high_bit octet fits = tested (λ x. bit_and x 128) (λ x. x / 128 * 2 ^ 7) refl octet fits

pub low_bits_set : (octet pt : ℕ) → octet < 256 → pt < 128 → bit_or (bit_and octet 128) pt ≡ 128 * (octet / 128) + pt
low_bits_set octet pt fits small =
    let shifted = or_shifted (octet / 128) 7 pt small in
    ap (λ (x : ℕ). bit_or x pt) (high_bit octet fits) ∙ omega (arith, shifted)

pub high_bit_set : (octet : ℕ) → octet < 256 → bit_or (bit_and octet 127) 128 ≡ 128 * bit true + octet % 128
high_bit_set octet fits = tested (λ x. bit_or (bit_and x 127) 128) (λ x. 128 * bit true + x % 128) refl octet fits

pub high_bit_cleared : (octet : ℕ) → octet < 256 → bit_or (bit_and octet 127) 0 ≡ 128 * bit false + octet % 128
high_bit_cleared octet fits = tested (λ x. bit_or (bit_and x 127) 0) (λ x. 128 * bit false + x % 128) refl octet fits

pub extension_cleared : (octet : ℕ) → octet < 256 → bit_and octet 239 ≡ 32 * (octet / 32) + octet % 16
extension_cleared octet fits = tested (λ x. bit_and x 239) (λ x. 32 * (x / 32) + x % 16) refl octet fits

-- ---- packets

pub reads_fixed : (packet : List ℕ) → IsRtp packet → 12 ≤ length packet
reads_fixed packet is = (packet_again is.0 is.1 packet is.2).0.fixed

pub reads_csrcs : (packet : List ℕ) → IsRtp packet → cut_len packet ≤ length packet
reads_csrcs packet is = (packet_again is.0 is.1 packet is.2).0.csrcs

-- the packet with another payload type in its second octet
pub pt_set : (h : Header) (rest packet : List ℕ) (pt octet : ℕ) → IsPacket h rest packet → pt < 128 → octet ≡ 128 * (get_or packet 1 0 / 128) + pt
    → IsPacket (with_pt pt h) rest (set packet 1 octet)
unfolding spelling
pt_set h rest packet pt octet is small octet_is =
    let second : get_or packet 1 0 ≡ second_octet h = ap (λ (xs : List ℕ). get_or xs 1 0) is.octets in
    let one = bit-le h.marker in
    let fits = is.header.pt in
    let value : octet ≡ second_octet (with_pt pt h) = omega arith in
    record {
      header = IsHeader-with_pt h pt is.header small;
      octets = ap (λ (xs : List ℕ). set xs 1 octet) is.octets ∙ ap (λ (x : ℕ). set (spelling h ++ rest) 1 x) value;
    }

-- the packet with another marker in its second octet
pub marker_set : (h : Header) (rest packet : List ℕ) (marker : Bool) (octet : ℕ) → IsPacket h rest packet → octet ≡ 128 * bit marker + get_or packet 1 0 % 128
    → IsPacket (with_marker marker h) rest (set packet 1 octet)
unfolding spelling
marker_set h rest packet marker octet is octet_is =
    let second : get_or packet 1 0 ≡ second_octet h = ap (λ (xs : List ℕ). get_or xs 1 0) is.octets in
    let one = bit-le h.marker in
    let fits = is.header.pt in
    let value : octet ≡ second_octet (with_marker marker h) = omega arith in
    record {
      header = IsHeader-with_marker h marker is.header;
      octets = ap (λ (xs : List ℕ). set xs 1 octet) is.octets ∙ ap (λ (x : ℕ). set (spelling h ++ rest) 1 x) value;
    }

-- the packet with another number in octets 2 and 3
pub seq_set : (h : Header) (rest packet part : List ℕ) (n seq : ℕ) → IsPacket h rest packet → n ≡ 2 → seq < 2 ^ 16
    → part ≡ big_bytes 2 seq ++ drop 2 (mid_of n (length packet - n) packet)
    → IsPacket (with_seq seq h) rest (put_mid n (length packet - n) packet part)
unfolding spelling
seq_set h rest packet part n seq is offset fits is_part =
    let long : 12 ≤ length packet = reads_fixed packet (h, rest, is) in
    let front : List ℕ = first_octet h ∷ second_octet h ∷ [] in
    let whole : packet ≡ front ++ drop 2 packet = is.octets ∙ ap (λ (xs : List ℕ). front ++ drop 2 xs) (sym is.octets) in
    let at_offset : packet ≡ front ++ drop n packet = whole ∙ ap (λ (k : ℕ). front ++ drop k packet) (sym offset) in
    let written = written_more front (big_bytes 2 seq) packet packet part n 2 (sym offset) refl (omega arith) at_offset is_part in
    record {
      header = IsHeader-with_seq h seq is.header fits;
      octets = written
          ∙ ap (λ (k : ℕ). (front ++ big_bytes 2 seq) ++ drop (k + 2) packet) offset
          ∙ ap (λ (xs : List ℕ). (front ++ big_bytes 2 seq) ++ drop 4 xs) is.octets;
    }

-- the cut header written over the front of other octets
pub header_cut : (h : Header) (rest packet old : List ℕ) (n octet : ℕ) → IsPacket h rest packet → n ≡ cut_len packet
    → octet ≡ 32 * (get_or packet 0 0 / 32) + get_or packet 0 0 % 16
    → (n ≡ length (spelling (cut h))) × (set (take n packet ++ drop n old) 0 octet ≡ spelling (cut h) ++ drop n old)
unfolding spelling
header_cut h rest packet old n octet is n_is octet_is =
    let first : get_or packet 0 0 ≡ first_octet h = ap (λ (xs : List ℕ). get_or xs 0 0) is.octets in
    let p = bit-le h.padding in
    let x = bit-le (is_some h.extension) in
    let count = is.header.csrc_count in
    let value : octet ≡ first_octet (cut h) = omega arith in
    let csrcs : List ℕ = flat_map (big_bytes 4) h.csrcs in
    let extension : List ℕ = extension_octets h.extension in
    let kept : List ℕ = fixed_octets h ++ csrcs in
    let len : length kept ≡ n = omega (arith, length-append (fixed_octets h) csrcs, fours_length h.csrcs) in
    let taken : take n packet ≡ kept = ap (take n) (is.octets ∙ append_assoc kept extension rest) ∙ take_at kept (extension ++ rest) n len in (
      sym len ∙ omega (arith, length-append (fixed_octets h) csrcs, spelling-length (cut h), fours_length h.csrcs),
      ap (λ (xs : List ℕ). set (xs ++ drop n old) 0 octet) taken
          ∙ ap (λ (y : ℕ). set (kept ++ drop n old) 0 y) value
          ∙ ap (λ (r : List ℕ). r ++ drop n old) (sym (append-nil (fixed_octets (cut h) ++ csrcs))),
    )
