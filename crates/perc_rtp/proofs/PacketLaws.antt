-- Octets are read as the packet that they are, or refused for the first fault.
use Rattle.std.proofs.Common.{◌≡◌, ℕ, ◌≤◌, List, length, drop, Ok, Err, Result, refl, ap, subst, ◌∙◌, arith}
use Rattle.std.specs.Prelude.{◌≢◌, ◌↔◌}
use Rattle.std.specs.List.{All}
use Rattle.std.specs.Result.{result_and, result_map_both}
use Rattle.std.proofs.lemmas.Bool.Decides.{nat_tests}
use Rattle.std.proofs.lemmas.List.{drop_at}
use Rattle.perc_rtp.specs.declared.head.RtpFault.{RtpFault}
use Rattle.perc_rtp.specs.declared.head.RtpFault.TheVariants.{Short, Version, Extension}
use Rattle.perc_rtp.specs.Header.{Header, IsOctet, IsPacket, IsShort, LacksExtension, spelling, version, cut_len}
use Rattle.perc_rtp.specs.Reading.{cut_at, end_at, header_at, packet_of}
use Rattle.perc_octets.specs.Octets.{AreOctets}
use Rattle.perc_rtp.proofs.Octets.{AreOctets-all}
use Rattle.perc_rtp.proofs.Reading.{packet_in, packet_again, cut_passes, passes_cut}

-- what is read where the header has an end
pub read_to : (octets : List ℕ) (cut len : ℕ) → cut_at octets ≡ Ok cut → end_at octets ≡ Ok len → packet_of octets ≡ Ok (header_at octets, drop len octets)
unfolding packet_of
read_to octets cut len is_cut is_len = rw (is_cut, is_len) refl

-- a fault before the end of the CSRCs, and one behind it
pub cut_refused : (octets : List ℕ) (fault : RtpFault) → cut_at octets ≡ Err fault → packet_of octets ≡ Err fault
unfolding packet_of
cut_refused octets fault is = rw is refl

pub end_refused : (octets : List ℕ) (cut : ℕ) (fault : RtpFault) → cut_at octets ≡ Ok cut → end_at octets ≡ Err fault → packet_of octets ≡ Err fault
unfolding packet_of
end_refused octets cut fault is_cut is = rw (is_cut, is) refl

-- each packet is read, whatever its rest
pub packet_read : (h : Header) (rest octets : List ℕ) → IsPacket h rest octets → packet_of octets ≡ Ok (h, rest)
packet_read h rest octets is =
    let p = packet_again h rest octets is in
    let behind : drop (length (spelling h)) octets ≡ rest = ap (drop (length (spelling h))) is.octets ∙ drop_at (spelling h) rest (length (spelling h)) refl in
    read_to octets (cut_len octets) (length (spelling h)) (passes_cut octets (length (spelling h)) p.0) p.0.end ∙ λ i. Ok (p.1 i, behind i)

read_by : (octets : List ℕ) (c e : Result ℕ RtpFault) (h : Header) (rest : List ℕ) → AreOctets octets → cut_at octets ≡ c → end_at octets ≡ e
    → result_map_both {U = Header × List ℕ} (λ len. (header_at octets, drop len octets)) (λ fault. fault) (result_and c e) ≡ Ok (h, rest) → IsPacket h rest octets
read_by octets (Err fault) e h rest fits is_cut is_end read = cc
read_by octets (Ok cut) (Err fault) h rest fits is_cut is_end read = cc
read_by octets (Ok cut) (Ok len) h rest fits is_cut is_end read =
    let p = packet_in octets len fits (cut_passes octets cut len is_cut is_end) in
    let same : ◌≡◌ {A = Header × List ℕ} (header_at octets, drop len octets) (h, rest) = cc in
    subst (λ (read : Header × List ℕ). IsPacket read.0 read.1 octets) same p.0

-- and what is read is the packet
pub read_packet : (h : Header) (rest octets : List ℕ) → All IsOctet octets → packet_of octets ≡ Ok (h, rest) → IsPacket h rest octets
unfolding packet_of
read_packet h rest octets fits read = read_by octets (cut_at octets) (end_at octets) h rest (AreOctets-all octets fits) refl refl read

pub packet_is_read : (h : Header) (rest octets : List ℕ) → All IsOctet octets → (packet_of octets ≡ Ok (h, rest)) ↔ IsPacket h rest octets
packet_is_read h rest octets fits = (read_packet h rest octets fits, packet_read h rest octets)

-- ---- refusals

pub short_read : (octets : List ℕ) → (packet_of octets ≡ Err Short) ↔ IsShort octets
unfolding packet_of
short_read octets = grind (arith, nat_tests)

pub version_read : (octets : List ℕ) → (packet_of octets ≡ Err Version) ↔ ((12 ≤ length octets) × (version octets ≢ 2))
unfolding packet_of
version_read octets = grind (arith, nat_tests)

pub extension_read : (octets : List ℕ) → (packet_of octets ≡ Err Extension) ↔ LacksExtension octets
unfolding packet_of
extension_read octets = grind (arith, nat_tests)
