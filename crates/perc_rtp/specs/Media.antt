-- What a sender makes of one piece of media: an RTP packet, its padding included (RFC 3550 section 5.1).
use Rattle.std.specs.Prelude.{ℕ, zero, suc, ◌+◌, ◌%◌, Bool, true, not, ◌&&◌, ◌||◌, ◌==◌, nat_lt, nat_le, if◌then◌else◌, List, [], ◌∷◌, ◌++◌, length, Option, Some, None, replicate}
use Rattle.std.specs.Option.{option_map, option_map_or}
use Rattle.perc_rtp.specs.declared.media.Media.{Media}
use Rattle.perc_rtp.specs.declared.media.MediaFault.{MediaFault}
use Rattle.perc_rtp.specs.declared.media.MediaFault.TheVariants.{Pt, Csrcs, Extension, Payload, Padding}
use Rattle.perc_rtp.specs.Header.{Header}

-- a piece of media, without where its parts lie in memory
pub record Content : Type 0 where
  pub pt : ℕ
  pub marker : Bool
  pub timestamp : ℕ
  pub csrcs : List ℕ
  pub extension : Option (ℕ × List ℕ)
  pub payload : List ℕ
  pub pad : ℕ

abbrev pub content_of : Media → Content
content_of m = record {
  pt = m.pt;
  marker = m.marker;
  timestamp = m.timestamp;
  csrcs = m.csrcs.now;
  extension = option_map (λ e. (e.0, e.1.now)) m.extension;
  payload = m.payload.now;
  pad = m.pad;
}

-- n octets of padding: zeros, and the count in the last one
abbrev pub padding_octets : ℕ → List ℕ
padding_octets zero = []
padding_octets (suc n) = replicate n 0 ++ suc n ∷ []

-- what follows the header: the payload and its padding
abbrev pub rest_of : Content → List ℕ
rest_of c = c.payload ++ padding_octets c.pad

-- the header of the packet that a sender with this SSRC makes of the content under this number
abbrev pub header_of : Content → ℕ → ℕ → Header
header_of c seq ssrc = record {
  padding = nat_lt 0 c.pad;
  marker = c.marker;
  pt = c.pt;
  seq = seq;
  timestamp = c.timestamp;
  ssrc = ssrc;
  csrcs = c.csrcs;
  extension = c.extension;
}

-- A payload type below 64 or from 96 to 127. The others are kept for RTCP on the same port (RFC 5761 section 4).
abbrev pub is_payload_type : ℕ → Bool
is_payload_type pt = nat_lt pt 64 || (nat_le 96 pt && nat_lt pt 128)

-- an extension of whole words of 4 octets, at most 30 of them
abbrev pub is_short_extension : ℕ × List ℕ → Bool
is_short_extension e = (length e.1 % 4 == 0) && nat_le (length e.1) 120

-- how many octets a payload has at most, its padding included
abbrev pub longest_payload : ℕ
longest_payload = 1200

-- the first thing that keeps the content from being sent
abbrev pub media_fault : Content → Option MediaFault
media_fault c =
    if not (is_payload_type c.pt) then Some Pt
    else (if nat_lt 15 (length c.csrcs) then Some Csrcs
    else (if not (option_map_or is_short_extension c.extension true) then Some Extension
    else (if nat_lt longest_payload (length c.payload) then Some Payload
    else (if nat_lt longest_payload (length c.payload + c.pad) then Some Padding else None))))
