-- The header that stands at the front of octets, and what is answered for octets, the first fault first.
use Rattle.std.specs.Prelude.{ℕ, zero, suc, ◌+◌, ◌*◌, ◌/◌, ◌%◌, Bool, not, ◌==◌, nat_lt, if◌then◌else◌, List, [], ◌∷◌, length, take, drop, Some, None, Result, Ok, Err, slice_index}
use Rattle.std.specs.Result.{result_and, result_map_both}
use Rattle.byteorder.specs.Endian.{big_number}
use Rattle.perc_rtp.specs.declared.head.RtpHead.{RtpHead}
use Rattle.perc_rtp.specs.declared.head.RtpFault.{RtpFault}
use Rattle.perc_rtp.specs.declared.head.RtpFault.TheVariants.{Short, Version, Extension}
use Rattle.perc_rtp.specs.Header.{Header, version, cut_len, extension_end}

-- the first n numbers of 4 octets
abbrev pub numbers : ℕ → List ℕ → List ℕ
numbers zero octets = []
numbers (suc n) octets = big_number 4 octets ∷ numbers n (drop 4 octets)

-- the bits P, X and M
abbrev pub has_padding : List ℕ → Bool
has_padding packet = slice_index packet 0 / 32 % 2 == 1

abbrev pub has_extension : List ℕ → Bool
has_extension packet = slice_index packet 0 / 16 % 2 == 1

abbrev pub has_marker : List ℕ → Bool
has_marker packet = slice_index packet 1 / 128 % 2 == 1

-- the profile and the words of the extension behind the CSRCs
abbrev pub extension_at : List ℕ → ℕ × List ℕ
extension_at packet =
    (big_number 2 (drop (cut_len packet) packet), take (4 * big_number 2 (drop (cut_len packet + 2) packet)) (drop (cut_len packet + 4) packet))

-- the header that octets spell, where there are enough of them
unfoldable pub header_at : List ℕ → Header
header_at packet = record {
  padding = has_padding packet;
  marker = has_marker packet;
  pt = slice_index packet 1 % 128;
  seq = big_number 2 (drop 2 packet);
  timestamp = big_number 4 (drop 4 packet);
  ssrc = big_number 4 (drop 8 packet);
  csrcs = numbers (slice_index packet 0 % 16) (drop 12 packet);
  extension = if has_extension packet then Some (extension_at packet) else None;
}

-- what a reader tells of this header, whose length is `len`
abbrev pub head_at : List ℕ → ℕ → RtpHead
head_at packet len = record {
  padding = has_padding packet;
  extension = has_extension packet;
  csrcs = slice_index packet 0 % 16;
  marker = has_marker packet;
  pt = slice_index packet 1 % 128;
  seq = big_number 2 (drop 2 packet);
  timestamp = big_number 4 (drop 4 packet);
  ssrc = big_number 4 (drop 8 packet);
  cut = cut_len packet;
  len = len;
}

-- where the CSRCs end
abbrev pub cut_at : List ℕ → Result ℕ RtpFault
cut_at packet =
    if nat_lt (length packet) 12 then Err Short
    else (if not (version packet == 2) then Err Version
    else (if nat_lt (length packet) (cut_len packet) then Err Short else Ok (cut_len packet)))

-- where the header ends whose CSRCs are there
abbrev pub end_at : List ℕ → Result ℕ RtpFault
end_at packet =
    if not (has_extension packet) then Ok (cut_len packet)
    else (if nat_lt (length packet) (cut_len packet + 4) then Err Extension
    else (if nat_lt (length packet) (extension_end packet) then Err Extension else Ok (extension_end packet)))

-- the header and the rest of the packet that octets are, or the first fault
unfoldable pub packet_of : List ℕ → Result (Header × List ℕ) RtpFault
packet_of octets = result_map_both (λ len. (header_at octets, drop len octets)) (λ fault. fault) (result_and (cut_at octets) (end_at octets))
