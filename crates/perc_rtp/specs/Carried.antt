-- Which protocol a datagram carries (RFC 7983 section 7, RFC 5761 section 4), and the head of an RTCP packet
-- (RFC 3550 section 6.4.1).
use Rattle.std.specs.Prelude.{ℕ, Bool, not, ◌&&◌, ◌==◌, nat_le, nat_lt, if◌then◌else◌, List, [], ◌∷◌, length, drop, Result, Ok, Err, slice_index}
use Rattle.byteorder.specs.Endian.{big_number}
use Rattle.perc_rtp.specs.declared.carried.Carried.{Carried}
use Rattle.perc_rtp.specs.declared.carried.Carried.TheVariants.{Dtls, Rtcp, Rtp, Other}
use Rattle.perc_rtp.specs.declared.carried.RtcpHead.{RtcpHead}
use Rattle.perc_rtp.specs.declared.carried.RtcpShape.{RtcpShape}
use Rattle.perc_rtp.specs.declared.carried.RtcpShape.TheVariants.{Short, Version}
use Rattle.perc_rtp.specs.Header.{version}

abbrev pub is_between : ℕ → ℕ → ℕ → Bool
is_between low high x = nat_le low x && nat_le x high

-- By the first octet: 20 to 63 is DTLS, and 128 to 191 is RTP or RTCP. A second octet from 192 to 223, which RTP would read
-- as a marker with a payload type of 64 to 95, is RTCP's.
abbrev pub kind_of : List ℕ → Carried
kind_of [] = Other
kind_of (first ∷ []) = if is_between 20 63 first then Dtls else (if is_between 128 191 first then Rtp else Other)
kind_of (first ∷ second ∷ rest) =
    if is_between 20 63 first then Dtls
    else (if is_between 128 191 first then (if is_between 192 223 second then Rtcp else Rtp) else Other)

-- how many octets an RTCP packet has at most that is sent, before it is sealed
abbrev pub longest_rtcp : ℕ
longest_rtcp = 1200

-- the head of 8 octets: the version in the two high bits of the first, the packet type in the second, the SSRC in the
-- last four
abbrev pub rtcp_head : List ℕ → Result RtcpHead RtcpShape
rtcp_head packet =
    if nat_lt (length packet) 8 then Err Short
    else (if not (version packet == 2) then Err Version
    else Ok (record { pt = slice_index packet 1; ssrc = big_number 4 (drop 4 packet) }))
