-- SRTP packets sealed with AES-GCM (RFC 7714 sections 8 and 9), under the keys of a session. An index is ROC * 65536 + SEQ.
use Rattle.std.specs.Prelude.{◌≡◌, ℕ, ◌+◌, ◌-◌, ◌/◌, ◌%◌, ◌^◌, ◌&&◌, nat_le, if◌then◌else◌, Option, None, List, ◌∷◌, ◌++◌, length, map, bit_xor, slice_index, take, drop}
use Rattle.std.specs.List.{range_with_len}
use Rattle.std.specs.Option.{option_map}
use Rattle.std.specs.Str.{bytes_eq}
use Rattle.byteorder.specs.Endian.{big_bytes, big_number}
use Rattle.perc_gcm.specs.Gcm.{sealed_text, unsealed_text}
use Rattle.perc_kdf.specs.Derivation.{KeyAndSalt}
use Rattle.perc_rtp.specs.Header.{Header, spelling}

-- ---- IVs

-- 12 octets, each with the octet of the salt in its place added (RFC 7714 section 8.1)
abbrev pub salted : List ℕ → List ℕ → List ℕ
salted salt octets = map (λ k. bit_xor (slice_index salt k) (slice_index octets k)) (range_with_len 0 12)

-- the IV of a packet: two zero octets, the SSRC, the ROC and the SEQ, salted
unfoldable pub iv : List ℕ → ℕ → ℕ → List ℕ
iv salt ssrc index =
    salted salt (0 ∷ 0 ∷ (big_bytes 4 ssrc ++ big_bytes 4 (index / 65536) ++ big_bytes 2 (index % 65536)))

-- the IV of an RTCP packet: two zero octets, the SSRC, two zero octets and the index of 31 bits, salted (section 9.1)
unfoldable pub rtcp_iv : List ℕ → ℕ → ℕ → List ℕ
rtcp_iv salt ssrc index = salted salt (0 ∷ 0 ∷ (big_bytes 4 ssrc ++ 0 ∷ 0 ∷ big_bytes 4 index))

-- ---- RTP

-- what stands behind the header of a sealed packet: the body's cipher text and the tag; the whole header is additional data
unfoldable pub sealed_body : KeyAndSalt → ℕ → Header → List ℕ → List ℕ
sealed_body keys index h body = sealed_text keys.key (iv keys.salt h.ssrc index) (spelling h) body

-- the packet with this header and this body, sealed at an index
abbrev pub sealed : KeyAndSalt → ℕ → Header → List ℕ → List ℕ
sealed keys index h body = spelling h ++ sealed_body keys index h body

-- the body of a packet with this header, from what stands behind the header; none where there is no tag, or a wrong one
unfoldable pub unsealed_body : KeyAndSalt → ℕ → Header → List ℕ → Option (List ℕ)
unsealed_body keys index h rest = unsealed_text keys.key (iv keys.salt h.ssrc index) (spelling h) rest

-- ---- RTCP

-- the word behind a sealed RTCP packet: the bit E, which says that it is encrypted, and the index of 31 bits
abbrev pub rtcp_word : ℕ → List ℕ
rtcp_word index = big_bytes 4 (2 ^ 31 + index)

-- the last four octets of a packet, where the word stands
abbrev pub index_word : List ℕ → List ℕ
index_word packet = drop (length packet - 4) packet

-- the SSRC of an RTCP packet
abbrev pub rtcp_ssrc : List ℕ → ℕ
rtcp_ssrc packet = big_number 4 (drop 4 packet)

-- what is additional data: the first 8 octets, and the word
abbrev pub rtcp_aad : ℕ → List ℕ → List ℕ
rtcp_aad index packet = take 8 packet ++ rtcp_word index

-- an RTCP packet sealed at an index: its first 8 octets, the rest sealed, and the word
unfoldable pub sealed_rtcp : KeyAndSalt → ℕ → List ℕ → List ℕ
sealed_rtcp keys index packet =
    take 8 packet ++ sealed_text keys.key (rtcp_iv keys.salt (rtcp_ssrc packet) index) (rtcp_aad index packet) (drop 8 packet)
    ++ rtcp_word index

-- what stands between the first 8 octets and the word
abbrev pub sealed_part : List ℕ → List ℕ
sealed_part packet = take (length packet - 12) (drop 8 packet)

-- the packet that was sealed at an index; none where it is too short for a tag and the word, has another word, or a wrong tag
unfoldable pub unsealed_rtcp : KeyAndSalt → ℕ → List ℕ → Option (List ℕ)
unsealed_rtcp keys index packet =
    if nat_le 28 (length packet) && bytes_eq (index_word packet) (rtcp_word index)
    then option_map (λ text. take 8 packet ++ text)
    (unsealed_text keys.key (rtcp_iv keys.salt (rtcp_ssrc packet) index) (rtcp_aad index packet) (sealed_part packet))
    else None

-- ---- what stands in a buffer

-- The octets begin with these.
abbrev pub BeginsWith : List ℕ → List ℕ → Type 0
BeginsWith front octets = take (length front) octets ≡ front
