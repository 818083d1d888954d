-- The header of an RTP packet (RFC 3550 sections 5.1 and 5.3.1), and what a packet is: the spelling of a header,
-- followed by a rest.
use Rattle.std.specs.Prelude.{◌≡◌, ℕ, ◌+◌, ◌*◌, ◌/◌, ◌%◌, ◌^◌, ◌<◌, ◌≤◌, ◌⊎◌, Bool, if◌then◌else◌, List, [], ◌∷◌, ◌++◌, length, drop, Option, Some, None, is_some, IfSome, slice_index}
use Rattle.std.specs.List.{flat_map, All}
use Rattle.byteorder.specs.Endian.{big_bytes, big_number}
use Rattle.perc_rtp.specs.declared.head.RtpHead.{RtpHead}

-- a header's fields; the extension is its profile and its octets
pub record Header : Type 0 where
  pub padding : Bool
  pub marker : Bool
  pub pt : ℕ
  pub seq : ℕ
  pub timestamp : ℕ
  pub ssrc : ℕ
  pub csrcs : List ℕ
  pub extension : Option (ℕ × List ℕ)

-- 1 where the bit is set
abbrev pub bit : Bool → ℕ
bit b = if b then 1 else 0

-- version 2, P, X and CC
abbrev pub first_octet : Header → ℕ
first_octet h = 128 + 32 * bit h.padding + 16 * bit (is_some h.extension) + length h.csrcs

-- M and PT
abbrev pub second_octet : Header → ℕ
second_octet h = 128 * bit h.marker + h.pt

-- the fixed part of 12 octets
abbrev pub fixed_octets : Header → List ℕ
fixed_octets h = first_octet h ∷ second_octet h ∷ (big_bytes 2 h.seq ++ big_bytes 4 h.timestamp ++ big_bytes 4 h.ssrc)

-- the profile, the count of words of 4 octets, and the words
abbrev pub extension_octets : Option (ℕ × List ℕ) → List ℕ
extension_octets None = []
extension_octets (Some e) = big_bytes 2 e.0 ++ big_bytes 2 (length e.1 / 4) ++ e.1

-- the header as it stands in a packet
unfoldable pub spelling : Header → List ℕ
spelling h = fixed_octets h ++ flat_map (big_bytes 4) h.csrcs ++ extension_octets h.extension

abbrev pub IsOctet : ℕ → Type 0
IsOctet x = x < 256

-- an extension has a profile of 16 bits and at most 65535 whole words
pub record IsExtension (e : ℕ × List ℕ) : Type 0 where
  pub profile : e.0 < 2 ^ 16
  pub whole : length e.1 % 4 ≡ 0
  pub words : length e.1 / 4 < 2 ^ 16
  pub octets : All IsOctet e.1

-- each field fits its bits
pub record IsHeader (h : Header) : Type 0 where
  pub pt : h.pt < 128
  pub seq : h.seq < 2 ^ 16
  pub timestamp : h.timestamp < 2 ^ 32
  pub ssrc : h.ssrc < 2 ^ 32
  pub csrc_count : length h.csrcs < 16
  pub csrcs : All (λ c. c < 2 ^ 32) h.csrcs
  pub extension : IfSome h.extension IsExtension

-- The packet is this header and this rest.
pub record IsPacket (h : Header) (rest packet : List ℕ) : Type 0 where
  pub header : IsHeader h
  pub octets : packet ≡ spelling h ++ rest

-- the version, in the two high bits of the first octet
abbrev pub version : List ℕ → ℕ
version packet = slice_index packet 0 / 64

-- how many octets the fixed part and the CSRCs have
abbrev pub cut_len : List ℕ → ℕ
cut_len packet = 12 + 4 * (slice_index packet 0 % 16)

-- The octets end inside the fixed part, or inside the CSRCs of a packet of version 2.
abbrev pub IsShort : List ℕ → Type 0
IsShort packet = (length packet < 12) ⊎ ((version packet ≡ 2) × (length packet < cut_len packet))

-- the bit X
abbrev pub HasExtension : List ℕ → Type 0
HasExtension packet = slice_index packet 0 / 16 % 2 ≡ 1

-- where the extension ends that stands behind the CSRCs, by its count of words
abbrev pub extension_end : List ℕ → ℕ
extension_end packet = cut_len packet + 4 + 4 * big_number 2 (drop (cut_len packet + 2) packet)

-- The extension that the packet announces isn't there whole.
abbrev pub LacksExtension : List ℕ → Type 0
LacksExtension packet =
    (version packet ≡ 2) × (12 ≤ length packet) × (cut_len packet ≤ length packet) × HasExtension packet
    × ((length packet < cut_len packet + 4) ⊎ (length packet < extension_end packet))

-- what a reader tells of a header: which parts there are, and where the CSRCs and the whole header end
abbrev pub head_of : Header → RtpHead
head_of h = record {
  padding = h.padding;
  extension = is_some h.extension;
  csrcs = length h.csrcs;
  marker = h.marker;
  pt = h.pt;
  seq = h.seq;
  timestamp = h.timestamp;
  ssrc = h.ssrc;
  cut = 12 + 4 * length h.csrcs;
  len = length (spelling h);
}
