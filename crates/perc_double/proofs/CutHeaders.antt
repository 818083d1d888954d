-- A header that ends with its CSRCs is short.
use Rattle.std.proofs.Common.{◌≡◌, ℕ, ◌≤◌, List, [], length, Option, None, ap, arith}
use Rattle.std.proofs.lemmas.List.{length-append}
use Rattle.perc_rtp.specs.Header.{Header, IsPacket, spelling, extension_octets}
use Rattle.perc_rtp.proofs.HeaderLaws.{length-spelling}

pub cut_header_short : (h : Header) (header : List ℕ) → IsPacket h [] header → h.extension ≡ None → length header ≤ 72
cut_header_short h header is none =
    let count = is.header.csrc_count in
    let ends = ap (λ (e : Option (ℕ × List ℕ)). length (extension_octets e)) none in
    omega (arith, ap length is.octets, length-append (spelling h) [], length-spelling h, ends, count)
