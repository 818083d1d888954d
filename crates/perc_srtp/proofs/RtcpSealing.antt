-- RTCP packets sealed and opened in a buffer, part by part: the head of 8 octets, the text, the tag and the word.
use borrow.Rule.Slice.PartMut.{put_mid}
use Rattle.std.proofs.Common.{◌≡◌, ℕ, ◌+◌, ◌-◌, ◌^◌, ◌≤◌, List, ◌++◌, length, take, drop, Option, Some, None, option_map, sym, ap, ◌∙◌, append_assoc, arith}
use Rattle.std.proofs.lemmas.List.{append-nil, drop-drop, drop-take, drop_all, drop_at, length-append, length-drop, length-take-le, take-take, take_at, take_rest}
use Rattle.std.proofs.Math.Seq.{take-add}
use Rattle.std.proofs.lemmas.Slice.{drop-put_mid, take-put_mid}
use Rattle.byteorder.specs.Endian.{big_bytes, big_number}
use Rattle.perc_gcm.specs.Gcm.{sealed_text, unsealed_text}
use Rattle.perc_kdf.specs.Derivation.{KeyAndSalt}
use Rattle.perc_srtp.specs.Sealed.{BeginsWith, index_word, rtcp_aad, rtcp_iv, rtcp_ssrc, rtcp_word, sealed_part, sealed_rtcp, unsealed_rtcp}
use Rattle.perc_srtp.proofs.RtcpLaws.{by_tag, length-sealed_rtcp, rtcp_as_sealed, same_ssrc}

-- the SSRC as it is read
pub ssrc_read : (packet : List ℕ) (ssrc : ℕ) → ssrc ≡ big_number 4 (take (length packet - 4) (drop 4 packet)) → ssrc ≡ rtcp_ssrc packet
ssrc_read packet ssrc is = is ∙ ap (big_number 4) (take_rest packet 4)

-- ---- sealing

-- the end of a list written anew
end_put : (a : ℕ) (xs ys : List ℕ) → put_mid a (length xs - a) xs ys ≡ take a xs ++ ys
end_put a xs ys =
    ap (λ (r : List ℕ). take a xs ++ (ys ++ r)) (drop_all (length xs - a) (drop a xs) (omega (arith, length-drop a xs)))
    ∙ ap (λ (r : List ℕ). take a xs ++ r) (append-nil ys)

-- the tag and the word, written one after the other
pub end_written : (copy tag word out buf : List ℕ) → copy ≡ tag → length tag ≡ 16
    → buf ≡ word ++ drop 4 (take (length (copy ++ drop 16 out) - 16) (drop 16 (copy ++ drop 16 out)))
    → put_mid 16 (length (copy ++ drop 16 out) - 16) (copy ++ drop 16 out) buf ≡ tag ++ word ++ drop 20 out
end_written copy tag word out buf same size is =
    let xs : List ℕ = copy ++ drop 16 out in
    let copy_size : length copy ≡ 16 = ap length same ∙ size in
    let rest : take (length xs - 16) (drop 16 xs) ≡ drop 16 out = take_rest xs 16 ∙ drop_at copy (drop 16 out) 16 copy_size in
    let buf_is : buf ≡ word ++ drop 20 out = is ∙ ap (λ (r : List ℕ). word ++ r) (ap (drop 4) rest ∙ drop-drop 4 16 out) in
    end_put 16 xs buf
    ∙ ap (λ (r : List ℕ). r ++ buf) (take_at copy (drop 16 out) 16 copy_size ∙ same)
    ∙ ap (λ (r : List ℕ). tag ++ r) buf_is
    ∙ sym (append_assoc tag word (drop 20 out))

-- What was made of the packet in the first `len` octets: the additional data, the cipher text and the tag.
pub record IsMade (keys : KeyAndSalt) (packet made aad text tag : List ℕ) (index len ssrc word : ℕ) : Type 0 where
  pub head : 8 ≤ len
  pub room : len + 20 ≤ length packet
  pub ssrc_is : ssrc ≡ rtcp_ssrc packet
  pub word_is : word ≡ 2 ^ 31 + index
  pub iv_is : made ≡ rtcp_iv keys.salt ssrc index
  pub aad_is : aad ≡ take 8 packet ++ big_bytes 4 word
  pub long : length text ≡ len - 8
  pub sealed_is : text ++ tag ≡ sealed_text keys.key made aad (take (len - 8) (drop 8 packet))

grouped : (h c t w r : List ℕ) → (h ++ c) ++ ((t ++ w) ++ r) ≡ ((h ++ (c ++ t)) ++ w) ++ r
grouped h c t w r = simp append_assoc

-- those parts are the sealed packet
parts_sealed : (keys : KeyAndSalt) (packet made aad text tag : List ℕ) (index len ssrc word : ℕ)
    → IsMade keys packet made aad text tag index len ssrc word
    → take 8 packet ++ (text ++ tag) ++ rtcp_word index ≡ sealed_rtcp keys index (take len packet)
unfolding sealed_rtcp
parts_sealed keys packet made aad text tag index len ssrc word m =
    let q : List ℕ = take len packet in
    let within : 8 ≤ len = m.head in
    let place : len ≡ 8 + (len - 8) = omega arith in
    let head : take 8 packet ≡ take 8 q = sym (take-take 8 len packet within) in
    let rest : take (len - 8) (drop 8 packet) ≡ drop 8 q = sym (ap (λ (n : ℕ). drop 8 (take n packet)) place ∙ drop-take 8 (len - 8) packet) in
    let ssrc_is : ssrc ≡ rtcp_ssrc q = m.ssrc_is ∙ same_ssrc packet q head in
    let iv_is : made ≡ rtcp_iv keys.salt (rtcp_ssrc q) index = m.iv_is ∙ ap (λ (s : ℕ). rtcp_iv keys.salt s index) ssrc_is in
    let aad_is : aad ≡ rtcp_aad index q = m.aad_is ∙ ap (λ (x : ℕ). take 8 packet ++ big_bytes 4 x) m.word_is ∙ ap (λ (xs : List ℕ). xs ++ rtcp_word index) head in
    ap (λ (xs : List ℕ). take 8 packet ++ xs ++ rtcp_word index) m.sealed_is
    ∙ (λ i. head i ++ sealed_text keys.key (iv_is i) (aad_is i) (rest i) ++ rtcp_word index)

-- What was written is the packet sealed, and what stood behind its end.
pub whole_sealed : (keys : KeyAndSalt) (packet made aad text tag end : List ℕ) (index len ssrc word : ℕ) → IsMade keys packet made aad text tag index len ssrc word
    → end ≡ tag ++ big_bytes 4 word ++ drop 20 (take (length (put_mid 8 (len - 8) packet text) - len) (drop len (put_mid 8 (len - 8) packet text)))
    → put_mid len (length (put_mid 8 (len - 8) packet text) - len) (put_mid 8 (len - 8) packet text) end ≡ sealed_rtcp keys index (take len packet) ++ drop (len + 20) packet
whole_sealed keys packet made aad text tag end index len ssrc word m end_is =
    let q : List ℕ = put_mid 8 (len - 8) packet text in
    let head : 8 ≤ len = m.head in
    let room : len + 20 ≤ length packet = m.room in
    let behind : drop 20 (take (length q - len) (drop len q)) ≡ drop (len + 20) packet =
    ap (drop 20) (take_rest q len ∙ drop-put_mid 8 (len - 8) packet text len (omega arith) (omega arith) m.long) ∙ drop-drop 20 len packet in
    end_put len q end
    ∙ ap (λ (r : List ℕ). r ++ end) (take-put_mid 8 (len - 8) packet text len (omega arith) (omega arith))
    ∙ ap (λ (r : List ℕ). (take 8 packet ++ text) ++ r) (end_is ∙ ap (λ (r : List ℕ). tag ++ big_bytes 4 word ++ r) behind ∙ ap (λ (x : ℕ). tag ++ big_bytes 4 x ++ drop (len + 20) packet) m.word_is)
    ∙ grouped (take 8 packet) text tag (rtcp_word index) (drop (len + 20) packet)
    ∙ ap (λ (r : List ℕ). r ++ drop (len + 20) packet) (parts_sealed keys packet made aad text tag index len ssrc word m)

-- ---- opening

-- what is known where a packet was opened or refused
pub record IsCut (keys : KeyAndSalt) (packet made aad tag : List ℕ) (index ssrc word : ℕ) : Type 0 where
  pub least : 28 ≤ length packet
  pub word_found : rtcp_word index ≡ index_word packet
  pub ssrc_is : ssrc ≡ rtcp_ssrc packet
  pub word_is : word ≡ 2 ^ 31 + index
  pub iv_is : made ≡ rtcp_iv keys.salt ssrc index
  pub aad_is : aad ≡ take 8 packet ++ big_bytes 4 word
  pub tag_is : tag ≡ take 16 (drop (length packet - 20) packet)

-- what was unsealed, as the code cut it
abbrev pub text_of : KeyAndSalt → List ℕ → List ℕ → List ℕ → List ℕ → Option (List ℕ)
text_of keys packet made aad tag = unsealed_text keys.key made aad (take (length packet - 20 - 8) (drop 8 packet) ++ tag)

-- the text and the tag are what stands between the head and the word
text_and_tag : (packet : List ℕ) → 28 ≤ length packet → take (length packet - 20 - 8) (drop 8 packet) ++ take 16 (drop (length packet - 20) packet) ≡ sealed_part packet
text_and_tag packet least =
    let n : ℕ = length packet in
    let place : 8 + (n - 20 - 8) ≡ n - 20 = omega arith in
    let end : n - 12 ≡ n - 20 - 8 + 16 = omega arith in
    ap (λ (k : ℕ). take (n - 20 - 8) (drop 8 packet) ++ take 16 (drop k packet)) (sym place)
    ∙ ap (λ (xs : List ℕ). take (n - 20 - 8) (drop 8 packet) ++ take 16 xs) (sym (drop-drop (n - 20 - 8) 8 packet))
    ∙ sym (take-add (n - 20 - 8) 16 (drop 8 packet))
    ∙ ap (λ (k : ℕ). take k (drop 8 packet)) (sym end)

-- So the packet opens where its text does.
pub opens_by_text : (keys : KeyAndSalt) (packet made aad tag : List ℕ) (index ssrc word : ℕ) → IsCut keys packet made aad tag index ssrc word
    → unsealed_rtcp keys index packet ≡ option_map (λ text. take 8 packet ++ text) (text_of keys packet made aad tag)
opens_by_text keys packet made aad tag index ssrc word c =
    let least : 28 ≤ length packet = c.least in
    let iv_is : rtcp_iv keys.salt (rtcp_ssrc packet) index ≡ made = sym (c.iv_is ∙ ap (λ (s : ℕ). rtcp_iv keys.salt s index) c.ssrc_is) in
    let aad_is : rtcp_aad index packet ≡ aad = sym (c.aad_is ∙ ap (λ (x : ℕ). take 8 packet ++ big_bytes 4 x) c.word_is) in
    let octets : sealed_part packet ≡ take (length packet - 20 - 8) (drop 8 packet) ++ tag =
    sym (ap (λ (xs : List ℕ). take (length packet - 20 - 8) (drop 8 packet) ++ xs) c.tag_is ∙ text_and_tag packet least) in
    by_tag keys index packet least (sym c.word_found)
    ∙ (λ i. option_map (λ text. take 8 packet ++ text) (unsealed_text keys.key (iv_is i) (aad_is i) (octets i)))

-- What opened stands at the front.
pub opened : (keys : KeyAndSalt) (packet made aad tag text : List ℕ) (index ssrc word : ℕ) → IsCut keys packet made aad tag index ssrc word
    → text_of keys packet made aad tag ≡ Some text
    → (plain : List ℕ) × (unsealed_rtcp keys index packet ≡ Some plain) × (length packet - 20 ≡ length plain) × BeginsWith plain (put_mid 8 (length packet - 20 - 8) packet text)
opened keys packet made aad tag text index ssrc word c found =
    let least : 28 ≤ length packet = c.least in
    let n : ℕ = length packet - 20 in
    let plain : List ℕ = take 8 packet ++ text in
    let opens : unsealed_rtcp keys index packet ≡ Some plain =
    opens_by_text keys packet made aad tag index ssrc word c ∙ ap (option_map (λ t. take 8 packet ++ t)) found in
    let size : length packet ≡ length plain + 20 = ap length (rtcp_as_sealed keys index packet plain opens).0 ∙ length-sealed_rtcp keys index plain in
    let n_is : n ≡ length plain = omega arith in
    let text_size : length text ≡ n - 8 = omega (arith, length-append (take 8 packet) text, length-take-le 8 packet (omega arith)) in (
      plain,
      opens,
      n_is,
      ap (λ (k : ℕ). take k (put_mid 8 (n - 8) packet text)) (sym n_is) ∙ take-put_mid 8 (n - 8) packet text n (omega arith) (omega arith),
    )

pub forged : (keys : KeyAndSalt) (packet made aad tag : List ℕ) (index ssrc word : ℕ) → IsCut keys packet made aad tag index ssrc word
    → text_of keys packet made aad tag ≡ None → unsealed_rtcp keys index packet ≡ None
forged keys packet made aad tag index ssrc word c none =
    opens_by_text keys packet made aad tag index ssrc word c ∙ ap (option_map (λ t. take 8 packet ++ t)) none
