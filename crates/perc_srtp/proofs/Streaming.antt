-- What the ends of a stream open: what was sealed at the index that they take, and nothing else.
use Rattle.std.proofs.Common.{◌≡◌, ℕ, ◌+◌, ◌-◌, ◌/◌, ◌^◌, ◌<◌, ◌≤◌, List, length, get_or, Option, Some, None, Result, Ok, Err, refl, sym, ap, ◌∙◌, arith}
use Rattle.std.proofs.lemmas.Bool.Decides.{nat_tests}
use Rattle.std.proofs.lemmas.List.{get_or-take, length-append}
use Rattle.byteorder.specs.Endian.{big_number}
use Rattle.perc_kdf.specs.Derivation.{KeyAndSalt}
use Rattle.perc_rtp.specs.Header.{Header, IsPacket, spelling, version}
use Rattle.perc_window.specs.Replay.{freshness}
use Rattle.perc_window.specs.declared.window.Freshness.TheVariants.{Fresh}
use Rattle.perc_srtp.specs.declared.streams.RxFault.{RxFault}
use Rattle.perc_srtp.specs.declared.streams.RxFault.TheVariants as rx
use Rattle.perc_srtp.specs.declared.rtcp.RtcpFault.{RtcpFault}
use Rattle.perc_srtp.specs.declared.rtcp.RtcpFault.TheVariants as rtcp
use Rattle.perc_srtp.specs.Sealed.{sealed_body, sealed_rtcp, unsealed_body, unsealed_rtcp}
use Rattle.perc_srtp.specs.Streams.{end_word, opened_at, rtcp_opened, rtcp_opening_index, rx_index, rx_opened, opening_index}
use Rattle.perc_srtp.proofs.PacketLaws.{length-sealed_body, sealed_opens, unsealed_as_sealed}
use Rattle.perc_srtp.proofs.RtcpLaws.{AreParts, parts_of, rtcp_as_sealed, rtcp_opens, word_number}

-- ---- the index

-- What stands behind a header has as many octets as the packet without it.
pub length-rest : (h : Header) (rest packet : List ℕ) (cut : ℕ) → IsPacket h rest packet → cut ≡ length (spelling h) → length packet - cut ≡ length rest
length-rest h rest packet cut is cut_is = omega (arith, ap length is.octets, length-append (spelling h) rest)

-- With 16 octets or more behind the header the index alone decides.
pub opening_by_index : (before : List ℕ) (seq n : ℕ) → 16 ≤ n → opening_index before seq n ≡ rx_index before seq
opening_by_index before seq n long = grind (arith, nat_tests)

-- With fewer there is no tag.
pub opening_short : (before : List ℕ) (seq n : ℕ) → n < 16 → opening_index before seq n ≡ Err rx.Short
opening_short before seq n short = grind (arith, nat_tests)

-- ---- RTP

-- Where there is no index the packet is refused so.
pub rx_refused : (keys : KeyAndSalt) (before : List ℕ) (h : Header) (rest : List ℕ) (fault : RxFault)
    → opening_index before h.seq (length rest) ≡ Err fault → rx_opened keys before h rest ≡ Err fault
unfolding rx_opened
rx_refused keys before h rest fault is = rw is refl

-- Where there is one, the tag decides.
pub rx_by_tag : (keys : KeyAndSalt) (before : List ℕ) (h : Header) (rest : List ℕ) (index : ℕ) → opening_index before h.seq (length rest) ≡ Ok index
    → rx_opened keys before h rest ≡ opened_at rx.Tag index (unsealed_body keys index h rest)
unfolding rx_opened
rx_by_tag keys before h rest index is = rw is refl

at_index : {F : Type 0} (fault : F) (at : ℕ) (found : Option (List ℕ)) (index : ℕ) (octets : List ℕ) → opened_at fault at found ≡ Ok (index, octets)
    → (at ≡ index) × (found ≡ Some octets)
at_index fault at None index octets e = cc
at_index fault at (Some x) index octets e =
    let found : ℕ × List ℕ = (at, x) in
    let wanted : ℕ × List ℕ = (index, octets) in
    let same : found ≡ wanted = cc in
    (ap (λ (p : ℕ × List ℕ). p.0) same, ap (λ (p : ℕ × List ℕ). Some p.1) same)

rx_opened_at : (keys : KeyAndSalt) (before : List ℕ) (h : Header) (rest : List ℕ) (index : ℕ) (body : List ℕ) (given : Result ℕ RxFault)
    → opening_index before h.seq (length rest) ≡ given → rx_opened keys before h rest ≡ Ok (index, body)
    → (opening_index before h.seq (length rest) ≡ Ok index) × (unsealed_body keys index h rest ≡ Some body)
rx_opened_at keys before h rest index body (Err fault) index_is opens =
    let refused = rx_refused keys before h rest fault index_is in
    absurd (cc)
rx_opened_at keys before h rest index body (Ok at) index_is opens =
    let found = at_index rx.Tag at (unsealed_body keys at h rest) index body (sym (rx_by_tag keys before h rest at index_is) ∙ opens) in
    (index_is ∙ ap Ok found.0, ap (λ (k : ℕ). unsealed_body keys k h rest) (sym found.0) ∙ found.1)

-- A packet opens exactly where it was sealed at the index that its sequence number leads to.
pub rx_opens_as_sealed : (keys : KeyAndSalt) (before : List ℕ) (h : Header) (rest : List ℕ) (index : ℕ) (body : List ℕ)
    → rx_opened keys before h rest ≡ Ok (index, body) → (rx_index before h.seq ≡ Ok index) × (rest ≡ sealed_body keys index h body)
rx_opens_as_sealed keys before h rest index body opens =
    let found = rx_opened_at keys before h rest index body (opening_index before h.seq (length rest)) refl opens in
    let is : rest ≡ sealed_body keys index h body = unsealed_as_sealed keys index h rest body found.1 in
    let long : 16 ≤ length rest = omega (arith, ap length is, length-sealed_body keys index h body) in
    (sym (opening_by_index before h.seq (length rest) long) ∙ found.0, is)

pub rx_sealed_opens : (keys : KeyAndSalt) (before : List ℕ) (h : Header) (rest : List ℕ) (index : ℕ) (body : List ℕ)
    → rx_index before h.seq ≡ Ok index → rest ≡ sealed_body keys index h body → rx_opened keys before h rest ≡ Ok (index, body)
rx_sealed_opens keys before h rest index body given is =
    let long : 16 ≤ length rest = omega (arith, ap length is, length-sealed_body keys index h body) in
    rx_by_tag keys before h rest index (opening_by_index before h.seq (length rest) long ∙ given)
    ∙ ap (opened_at rx.Tag index) (sealed_opens keys index h rest body is)

-- ---- RTCP

pub rtcp_refused : (keys : KeyAndSalt) (before packet : List ℕ) (fault : RtcpFault) → rtcp_opening_index before packet ≡ Err fault → rtcp_opened keys before packet ≡ Err fault
unfolding rtcp_opened
rtcp_refused keys before packet fault is = rw is refl

pub rtcp_by_tag : (keys : KeyAndSalt) (before packet : List ℕ) (index : ℕ) → rtcp_opening_index before packet ≡ Ok index
    → rtcp_opened keys before packet ≡ opened_at rtcp.Tag index (unsealed_rtcp keys index packet)
unfolding rtcp_opened
rtcp_by_tag keys before packet index is = rw is refl

rtcp_opened_at : (keys : KeyAndSalt) (before packet : List ℕ) (index : ℕ) (plain : List ℕ) (given : Result ℕ RtcpFault)
    → rtcp_opening_index before packet ≡ given → rtcp_opened keys before packet ≡ Ok (index, plain)
    → (rtcp_opening_index before packet ≡ Ok index) × (unsealed_rtcp keys index packet ≡ Some plain)
rtcp_opened_at keys before packet index plain (Err fault) index_is opens =
    let refused = rtcp_refused keys before packet fault index_is in
    absurd (cc)
rtcp_opened_at keys before packet index plain (Ok at) index_is opens =
    let found = at_index rtcp.Tag at (unsealed_rtcp keys at packet) index plain (sym (rtcp_by_tag keys before packet at index_is) ∙ opens) in
    (index_is ∙ ap Ok found.0, ap (λ (k : ℕ). unsealed_rtcp keys k packet) (sym found.0) ∙ found.1)

-- A packet opens exactly where it was sealed at the index in its word.
pub rtcp_opens_as_sealed : (keys : KeyAndSalt) (before packet : List ℕ) (index : ℕ) (plain : List ℕ)
    → rtcp_opened keys before packet ≡ Ok (index, plain)
    → (rtcp_opening_index before packet ≡ Ok index) × (packet ≡ sealed_rtcp keys index plain) × (8 ≤ length plain)
rtcp_opens_as_sealed keys before packet index plain opens =
    let found = rtcp_opened_at keys before packet index plain (rtcp_opening_index before packet) refl opens in
    let was = rtcp_as_sealed keys index packet plain found.1 in
    (found.0, was.0, was.1)

pub rtcp_sealed_opens : (keys : KeyAndSalt) (before packet : List ℕ) (index : ℕ) (plain : List ℕ) → rtcp_opening_index before packet ≡ Ok index
    → packet ≡ sealed_rtcp keys index plain → 8 ≤ length plain → rtcp_opened keys before packet ≡ Ok (index, plain)
rtcp_sealed_opens keys before packet index plain given is within =
    rtcp_by_tag keys before packet index given ∙ ap (opened_at rtcp.Tag index) (rtcp_opens keys index packet plain within is)

-- ---- what a sender made opens

end_word_sealed : (keys : KeyAndSalt) (index : ℕ) (plain packet : List ℕ) → index < 2 ^ 31 → AreParts keys index plain packet → end_word packet ≡ 2 ^ 31 + index
end_word_sealed keys index plain packet fits parts = ap (big_number 4) parts.word ∙ word_number index fits

version_sealed : (keys : KeyAndSalt) (index : ℕ) (plain packet : List ℕ) → AreParts keys index plain packet → version packet ≡ version plain
version_sealed keys index plain packet parts =
    let first : get_or packet 0 0 ≡ get_or plain 0 0 =
    sym (get_or-take 8 packet 0 0 (omega arith)) ∙ ap (λ (xs : List ℕ). get_or xs 0 0) parts.head ∙ get_or-take 8 plain 0 0 (omega arith) in
    ap (λ (x : ℕ). x / 64) first

-- An RTCP packet of version 2 that was sealed at a fresh index leads to that index.
pub rtcp_opening_sealed : (keys : KeyAndSalt) (before packet : List ℕ) (index : ℕ) (plain : List ℕ) → packet ≡ sealed_rtcp keys index plain
    → 8 ≤ length plain → version plain ≡ 2 → index < 2 ^ 31 → freshness before index ≡ Fresh → rtcp_opening_index before packet ≡ Ok index
rtcp_opening_sealed keys before packet index plain is within two fits fresh =
    let parts = parts_of keys index plain packet within is in
    let size : 28 ≤ length packet = omega (arith, parts.size) in
    let v : version packet ≡ 2 = version_sealed keys index plain packet parts ∙ two in
    let w : end_word packet ≡ 2 ^ 31 + index = end_word_sealed keys index plain packet fits parts in
    let at : end_word packet - 2 ^ 31 ≡ index = omega arith in
    let there : freshness before (end_word packet - 2 ^ 31) ≡ Fresh = ap (freshness before) at ∙ fresh in
    grind (arith, nat_tests)

-- So it opens there.
pub rtcp_genuine_opens : (keys : KeyAndSalt) (before : List ℕ) (index : ℕ) (plain : List ℕ) → 8 ≤ length plain → version plain ≡ 2 → index < 2 ^ 31
    → freshness before index ≡ Fresh → rtcp_opened keys before (sealed_rtcp keys index plain) ≡ Ok (index, plain)
rtcp_genuine_opens keys before index plain within two fits fresh =
    let packet : List ℕ = sealed_rtcp keys index plain in
    rtcp_sealed_opens keys before packet index plain (rtcp_opening_sealed keys before packet index plain refl within two fits fresh) refl within
