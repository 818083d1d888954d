-- Laws of the spelling of a header, for the crates that read and write packets.
use Rattle.std.proofs.Common.{◌≡◌, ℕ, zero, suc, ◌+◌, ◌-◌, ◌*◌, ◌/◌, ◌^◌, ◌<◌, ◌≤◌, Bool, true, nat_lt, List, [], ◌∷◌, ◌++◌, length, drop, get_or, replicate, Option, Some, None, refl, sym, ap, ◌∙◌, append_assoc, arith}
use Rattle.std.specs.Prelude.{is_some, IfSome}
use Rattle.std.specs.Int.{byte_at}
use Rattle.std.specs.List.{flat_map, All}
use Rattle.std.proofs.lemmas.Bool.{lt-ltb}
use Rattle.std.proofs.lemmas.Bool.Decides.{nat_tests}
use Rattle.std.proofs.lemmas.List.{append-nil, drop_at, take_at, get_or_at, length-append, length-replicate}
use Rattle.std.proofs.lemmas.List.Elements.{All-append, All-cons, All-nil}
use Rattle.byteorder.specs.Endian.{big_bytes}
use Rattle.perc_rtp.specs.Header.{Header, first_octet, second_octet, fixed_octets, extension_octets, spelling, IsOctet, IsExtension, IsHeader, IsPacket}
use Rattle.perc_rtp.specs.Fields.{IsRtp, with_pt, with_seq, with_marker, cut}
use Rattle.perc_rtp.specs.Media.{padding_octets}
use Rattle.perc_rtp.specs.Padding.{padding_count, payload_length, payload_of}
use Rattle.perc_rtp.proofs.Writing.{padding-length, spelling-length}
use Rattle.perc_rtp.proofs.Reading.{bit-le, packet_again}

-- how many octets a header has
pub length-spelling : (h : Header) → length (spelling h) ≡ 12 + 4 * length h.csrcs + length (extension_octets h.extension)
length-spelling h = spelling-length h

-- octets are the packet of one header and one rest
pub one_packet : (h g : Header) (r s packet : List ℕ) → IsPacket h r packet → IsPacket g s packet → (h ≡ g) × (r ≡ s)
one_packet h g r s packet p q =
    let same : h ≡ g = sym (packet_again h r packet p).1 ∙ (packet_again g s packet q).1 in
    let n : ℕ = length (spelling h) in
    let first : drop n packet ≡ r = ap (drop n) p.octets ∙ drop_at (spelling h) r n refl in
    let second : drop n packet ≡ s = ap (drop n) q.octets ∙ drop_at (spelling g) s n (ap (λ (k : Header). length (spelling k)) (sym same)) in
    (same, sym first ∙ second)

-- a header lies within its packet
pub header_within : (h : Header) (rest packet : List ℕ) → IsPacket h rest packet → length (spelling h) ≤ length packet
header_within h rest packet is = omega (arith, ap length is.octets, length-append (spelling h) rest)

byte-octet : (k n : ℕ) → byte_at k n < 256
byte-octet zero n = omega arith
byte-octet (suc k) n = omega arith

big_bytes-octets : (n x : ℕ) → All IsOctet (big_bytes n x)
big_bytes-octets zero x = All-nil IsOctet
big_bytes-octets (suc n) x = All-cons IsOctet (byte_at n x) (big_bytes n x) (byte-octet n x) (big_bytes-octets n x)

numbers-octets : (xs : List ℕ) → All IsOctet (flat_map (big_bytes 4) xs)
numbers-octets [] = All-nil IsOctet
numbers-octets (x ∷ xs) = All-append IsOctet (big_bytes 4 x) (flat_map (big_bytes 4) xs) (big_bytes-octets 4 x) (numbers-octets xs)

extension-octets : (o : Option (ℕ × List ℕ)) → IfSome o IsExtension → All IsOctet (extension_octets o)
extension-octets None fits = All-nil IsOctet
extension-octets (Some e) fits =
    All-append IsOctet (big_bytes 2 e.0 ++ big_bytes 2 (length e.1 / 4)) e.1
    (All-append IsOctet (big_bytes 2 e.0) (big_bytes 2 (length e.1 / 4)) (big_bytes-octets 2 e.0) (big_bytes-octets 2 (length e.1 / 4))) fits.octets

fixed-octets : (h : Header) → IsHeader h → All IsOctet (fixed_octets h)
fixed-octets h is =
    let p = bit-le h.padding in
    let x = bit-le (is_some h.extension) in
    let m = bit-le h.marker in
    let count = is.csrc_count in
    let pt = is.pt in
    let numbers : List ℕ = big_bytes 2 h.seq ++ big_bytes 4 h.timestamp ++ big_bytes 4 h.ssrc in
    All-cons IsOctet (first_octet h) (second_octet h ∷ numbers) (omega arith)
    (All-cons IsOctet (second_octet h) numbers (omega arith)
    (All-append IsOctet (big_bytes 2 h.seq ++ big_bytes 4 h.timestamp) (big_bytes 4 h.ssrc)
    (All-append IsOctet (big_bytes 2 h.seq) (big_bytes 4 h.timestamp) (big_bytes-octets 2 h.seq) (big_bytes-octets 4 h.timestamp)) (big_bytes-octets 4 h.ssrc)))

-- a header is spelled in octets
pub spelling-octets : (h : Header) → IsHeader h → All IsOctet (spelling h)
unfolding spelling
spelling-octets h is =
    let csrcs : List ℕ = flat_map (big_bytes 4) h.csrcs in
    All-append IsOctet (fixed_octets h ++ csrcs) (extension_octets h.extension)
    (All-append IsOctet (fixed_octets h) csrcs (fixed-octets h is) (numbers-octets h.csrcs)) (extension-octets h.extension is.extension)

-- ---- headers changed

-- a header stays one when a field of it is set to what fits
pub IsHeader-with_pt : (h : Header) (pt : ℕ) → IsHeader h → pt < 128 → IsHeader (with_pt pt h)
IsHeader-with_pt h pt is fits =
    record { pt = fits; seq = is.seq; timestamp = is.timestamp; ssrc = is.ssrc; csrc_count = is.csrc_count; csrcs = is.csrcs; extension = is.extension }

pub IsHeader-with_seq : (h : Header) (seq : ℕ) → IsHeader h → seq < 2 ^ 16 → IsHeader (with_seq seq h)
IsHeader-with_seq h seq is fits =
    record { pt = is.pt; seq = fits; timestamp = is.timestamp; ssrc = is.ssrc; csrc_count = is.csrc_count; csrcs = is.csrcs; extension = is.extension }

pub IsHeader-with_marker : (h : Header) (marker : Bool) → IsHeader h → IsHeader (with_marker marker h)
IsHeader-with_marker h marker is =
    record { pt = is.pt; seq = is.seq; timestamp = is.timestamp; ssrc = is.ssrc; csrc_count = is.csrc_count; csrcs = is.csrcs; extension = is.extension }

-- and when it is cut behind its CSRCs
pub IsHeader-cut : (h : Header) → IsHeader h → IsHeader (cut h)
IsHeader-cut h is =
    record { pt = is.pt; seq = is.seq; timestamp = is.timestamp; ssrc = is.ssrc; csrc_count = is.csrc_count; csrcs = is.csrcs; extension = tt }

pub length-cut : (h : Header) → length (spelling (cut h)) ≡ 12 + 4 * length h.csrcs
length-cut h = omega (arith, spelling-length (cut h))

-- a packet whose header was changed is a packet again
pub still_reads : (f : Header → Header) (old new : List ℕ) → IsRtp old → ((h : Header) (rest : List ℕ) → IsPacket h rest old → IsPacket (f h) rest new) → IsRtp new
still_reads f old new is changed = (f is.0, is.1, changed is.0 is.1 is.2)

-- ---- padding

-- what is left of a body whose last octet counts its padding
counted : (body : List ℕ) (n : ℕ) → suc n ≤ length body → padding_count body ≡ suc n → payload_length true body ≡ Some (length body - suc n)
counted [] n fits is = absurd (omega arith)
counted (x ∷ body) n fits is = grind (arith, nat_tests)

-- how much a receiver leaves of what a sender wrote
left_length : (payload : List ℕ) (pad : ℕ) → pad < 256 → payload_length (nat_lt 0 pad) (payload ++ padding_octets pad) ≡ Some (length payload)
left_length payload zero octet = ap (λ (xs : List ℕ). Some (length xs)) (append-nil payload)
left_length payload (suc n) octet =
    let front : List ℕ = payload ++ replicate n 0 in
    let body : List ℕ = payload ++ (replicate n 0 ++ suc n ∷ []) in
    let whole : body ≡ front ++ suc n ∷ [] = sym (append_assoc payload (replicate n 0) (suc n ∷ [])) in
    let before : length front ≡ length payload + n = length-append payload (replicate n 0) ∙ ap (λ (k : ℕ). length payload + k) (length-replicate n 0) in
    let long : length body ≡ length payload + suc n = length-append payload (padding_octets (suc n)) ∙ ap (λ (k : ℕ). length payload + k) (padding-length (suc n)) in
    let offset : length body - 1 ≡ length front = omega arith in
    let last : padding_count body ≡ suc n = ap (λ (k : ℕ). get_or body k 0) offset ∙ ap (λ (xs : List ℕ). get_or xs (length front) 0) whole ∙ get_or_at front (suc n) [] 0 (length front) refl in
    let left : length body - suc n ≡ length payload = omega arith in
    let padded : nat_lt 0 (suc n) ≡ true = lt-ltb 0 (suc n) (omega arith) in
    ap (λ (b : Bool). payload_length b body) padded ∙ counted body n (omega arith) last ∙ ap Some left

-- the padding that a sender writes is what a receiver takes off
pub padding_comes_off : (payload : List ℕ) (pad : ℕ) → pad < 256 → payload_of (nat_lt 0 pad) (payload ++ padding_octets pad) ≡ Some payload
padding_comes_off payload pad octet =
    rw (left_length payload pad octet) (ap Some (take_at payload (padding_octets pad) (length payload) refl))
