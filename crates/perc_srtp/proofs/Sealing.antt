-- A packet cut into its header, its text and its tag; and a body behind a header that stands elsewhere.
use Rattle.std.proofs.Common.{◌≡◌, ℕ, ◌+◌, ◌-◌, ◌≤◌, List, [], ◌++◌, length, take, drop, Result, Ok, Err, Option, Some, None, IfErr, IsErr, IsOk, refl, sym, ap, ◌∙◌, append_assoc, arith}
use Rattle.std.specs.Prelude.{MatchOption, MatchResult}
use Rattle.std.proofs.lemmas.List.{append-nil, drop-drop, drop-take, drop_at, length-append, take-append-drop, take-take, take_at}
use borrow.Rule.Slice.PartMut.{put_mid}
use Rattle.perc_gcm.specs.Gcm.{sealed_text, unsealed_text}
use Rattle.perc_kdf.specs.Derivation.{KeyAndSalt}
use Rattle.perc_rtp.specs.declared.head.RtpFault.{RtpFault}
use Rattle.perc_rtp.specs.declared.head.RtpHead.{RtpHead}
use Rattle.perc_rtp.specs.Header.{Header, IsPacket, head_of, spelling}
use Rattle.perc_srtp.specs.Sealed.{BeginsWith, iv, sealed, sealed_body, unsealed_body}
use Rattle.perc_srtp.proofs.PacketLaws.{forged_body, length-sealed_body, unsealed_as_sealed}

-- ---- the header that was read, and the IV that was made

-- What a reader told of a header: its length, its SSRC and its sequence number.
pub record IsRead (h : Header) (head : RtpHead) : Type 0 where
  pub len_is : head.len ≡ length (spelling h)
  pub ssrc_is : head.ssrc ≡ h.ssrc
  pub seq_is : head.seq ≡ h.seq

-- A reader's answer is that of the header.
pub head_read : (h : Header) (answer : Result RtpHead RtpFault) (head : RtpHead) → answer ≡ Ok (head_of h) → answer ≡ Ok head → IsRead h head
head_read h answer head is read =
    let same : head ≡ head_of h = cc in
    record { len_is = ap (λ (r : RtpHead). r.len) same; ssrc_is = ap (λ (r : RtpHead). r.ssrc) same; seq_is = ap (λ (r : RtpHead). r.seq) same }

-- The IV made of the SSRC that was read is the header's.
pub iv_read : (keys : KeyAndSalt) (index : ℕ) (h : Header) (head : RtpHead) (made : List ℕ) → IsRead h head → made ≡ iv keys.salt head.ssrc index
    → made ≡ iv keys.salt h.ssrc index
iv_read keys index h head made read made_is = made_is ∙ ap (λ (s : ℕ). iv keys.salt s index) read.ssrc_is

-- ---- sealing

-- the header and the body of a packet
cut_in_two : (h : Header) (body packet : List ℕ) (cut : ℕ) → IsPacket h body packet → cut ≡ length (spelling h)
    → (take cut packet ≡ spelling h) × (drop cut packet ≡ body)
cut_in_two h body packet cut is cut_is =
    (ap (take cut) is.octets ∙ take_at (spelling h) body cut (sym cut_is), ap (drop cut) is.octets ∙ drop_at (spelling h) body cut (sym cut_is))

-- a text and a tag written over the front of a list
written : (text end old : List ℕ) (len : ℕ) → length text ≡ len → put_mid len (len + 16 - len) (text ++ drop len old) end ≡ (text ++ end) ++ drop (len + 16) old
written text end old len long =
    let behind : drop len (text ++ drop len old) ≡ drop len old = drop_at text (drop len old) len long in
    let after : drop (len + 16 - len) (drop len (text ++ drop len old)) ≡ drop (len + 16) old =
    ap (drop (len + 16 - len)) behind ∙ drop-drop (len + 16 - len) len old ∙ ap (λ (n : ℕ). drop n old) (omega arith) in
    ap (λ (xs : List ℕ). xs ++ (end ++ drop (len + 16 - len) (drop len (text ++ drop len old)))) (take_at text (drop len old) len long)
    ∙ ap (λ (xs : List ℕ). text ++ (end ++ xs)) after
    ∙ sym (append_assoc text end (drop (len + 16) old))

-- What was made of the packet in the first octets of a buffer: its cipher text behind its header, and its tag.
pub record IsMade (keys : KeyAndSalt) (h : Header) (body old made text tag : List ℕ) (index cut len : ℕ) : Type 0 where
  pub packet : IsPacket h body (take len old)
  pub cut_is : cut ≡ length (spelling h)
  pub iv_is : made ≡ iv keys.salt h.ssrc index
  pub long : length text ≡ len
  pub sealed_is : text ++ tag ≡ take cut (take len old) ++ sealed_text keys.key made (take cut (take len old)) (drop cut (take len old))

-- With the tag behind it that is the sealed packet.
pub sealed_made : (keys : KeyAndSalt) (h : Header) (body old made text tag : List ℕ) (index cut len : ℕ) → IsMade keys h body old made text tag index cut len
    → put_mid len (len + 16 - len) (text ++ drop len old) tag ≡ sealed keys index h body ++ drop (len + 16) old
unfolding sealed_body
sealed_made keys h body old made text tag index cut len m =
    let parts = cut_in_two h body (take len old) cut m.packet m.cut_is in
    let header : take cut (take len old) ≡ spelling h = parts.0 in
    let rest : drop cut (take len old) ≡ body = parts.1 in
    let iv_is : made ≡ iv keys.salt h.ssrc index = m.iv_is in
    let whole : text ++ tag ≡ sealed keys index h body = m.sealed_is ∙ (λ i. header i ++ sealed_text keys.key (iv_is i) (header i) (rest i)) in
    written text tag old len m.long ∙ ap (λ (xs : List ℕ). xs ++ drop (len + 16) old) whole

-- ---- opening

-- Where a packet was cut whose rest ends in a tag, and the IV that was made.
pub record IsCut (keys : KeyAndSalt) (h : Header) (rest packet made tag : List ℕ) (index cut : ℕ) : Type 0 where
  pub packet_is : IsPacket h rest packet
  pub long : 16 ≤ length rest
  pub cut_is : cut ≡ length (spelling h)
  pub iv_is : made ≡ iv keys.salt h.ssrc index
  pub tag_is : tag ≡ drop (length packet - 16) packet

-- what was unsealed, as the code cut it
abbrev pub text_of : KeyAndSalt → List ℕ → List ℕ → List ℕ → ℕ → Option (List ℕ)
text_of keys packet made tag cut =
    unsealed_text keys.key made (take cut (take (length packet - 16) packet)) (drop cut (take (length packet - 16) packet) ++ tag)

cut_header : (keys : KeyAndSalt) (h : Header) (rest packet made tag : List ℕ) (index cut : ℕ) → IsCut keys h rest packet made tag index cut
    → take cut (take (length packet - 16) packet) ≡ spelling h
cut_header keys h rest packet made tag index cut c =
    let long = c.long in
    let cut_is = c.cut_is in
    take-take cut (length packet - 16) packet (omega (arith, ap length c.packet_is.octets, length-append (spelling h) rest))
    ∙ (cut_in_two h rest packet cut c.packet_is c.cut_is).0

cut_rest : (keys : KeyAndSalt) (h : Header) (rest packet made tag : List ℕ) (index cut : ℕ) → IsCut keys h rest packet made tag index cut
    → drop cut (take (length packet - 16) packet) ++ tag ≡ rest
cut_rest keys h rest packet made tag index cut c =
    let long = c.long in
    let cut_is = c.cut_is in
    let m : ℕ = length rest - 16 in
    let place : length packet - 16 ≡ cut + m = omega (arith, ap length c.packet_is.octets, length-append (spelling h) rest) in
    let behind : drop cut packet ≡ rest = (cut_in_two h rest packet cut c.packet_is c.cut_is).1 in
    let text : drop cut (take (length packet - 16) packet) ≡ take m rest =
    ap (λ (n : ℕ). drop cut (take n packet)) place ∙ drop-take cut m packet ∙ ap (take m) behind in
    let end : tag ≡ drop m rest = c.tag_is ∙ ap (λ (n : ℕ). drop n packet) place ∙ sym (drop-drop m cut packet) ∙ ap (drop m) behind in
    (λ i. text i ++ end i) ∙ take-append-drop m rest

-- That is what the rest opens to.
pub text_is : (keys : KeyAndSalt) (h : Header) (rest packet made tag : List ℕ) (index cut : ℕ) → IsCut keys h rest packet made tag index cut
    → text_of keys packet made tag cut ≡ unsealed_body keys index h rest
unfolding unsealed_body
text_is keys h rest packet made tag index cut c =
    let header : take cut (take (length packet - 16) packet) ≡ spelling h = cut_header keys h rest packet made tag index cut c in
    let octets : drop cut (take (length packet - 16) packet) ++ tag ≡ rest = cut_rest keys h rest packet made tag index cut c in
    let iv_is : made ≡ iv keys.salt h.ssrc index = c.iv_is in
    λ i. unsealed_text keys.key (iv_is i) (header i) (octets i)

-- What opened stands behind the header.
pub opened : (keys : KeyAndSalt) (h : Header) (rest packet made tag text new : List ℕ) (index cut : ℕ) → IsCut keys h rest packet made tag index cut
    → text_of keys packet made tag cut ≡ Some text → new ≡ take cut (take (length packet - 16) packet) ++ text
    → (unsealed_body keys index h rest ≡ Some text) × (length packet - 16 ≡ length (spelling h ++ text)) × BeginsWith (spelling h ++ text) (new ++ drop (length packet - 16) packet)
opened keys h rest packet made tag text new index cut c found new_is =
    let body : unsealed_body keys index h rest ≡ Some text = sym (text_is keys h rest packet made tag index cut c) ∙ found in
    let size : length rest ≡ length text + 16 = ap length (unsealed_as_sealed keys index h rest text body) ∙ length-sealed_body keys index h text in
    let front : new ≡ spelling h ++ text = new_is ∙ ap (λ (xs : List ℕ). xs ++ text) (cut_header keys h rest packet made tag index cut c) in
    let n : ℕ = length (spelling h ++ text) in (
      body,
      omega (arith, ap length c.packet_is.octets, length-append (spelling h) rest, length-append (spelling h) text),
      ap (λ (xs : List ℕ). take n (xs ++ drop (length packet - 16) packet)) front ∙ take_at (spelling h ++ text) (drop (length packet - 16) packet) n refl,
    )

-- ---- behind a header that stands elsewhere

alone : (h : Header) (header : List ℕ) → IsPacket h [] header → header ≡ spelling h
alone h header is = is.octets ∙ append-nil (spelling h)

pub sealed_behind : (keys : KeyAndSalt) (h : Header) (header body octets made : List ℕ) (index : ℕ) → IsPacket h [] header
    → made ≡ iv keys.salt h.ssrc index → octets ≡ sealed_text keys.key made header body → octets ≡ sealed_body keys index h body
unfolding sealed_body
sealed_behind keys h header body octets made index is iv_is sealed_is =
    let whole : header ≡ spelling h = alone h header is in
    sealed_is ∙ (λ i. sealed_text keys.key (iv_is i) (whole i) body)

pub text_behind : (keys : KeyAndSalt) (h : Header) (header octets made : List ℕ) (index : ℕ) → IsPacket h [] header → made ≡ iv keys.salt h.ssrc index
    → unsealed_text keys.key made header octets ≡ unsealed_body keys index h octets
unfolding unsealed_body
text_behind keys h header octets made index is iv_is =
    let whole : header ≡ spelling h = alone h header is in
    λ i. unsealed_text keys.key (iv_is i) (whole i) octets

-- what is answered, from what was found
pub answered : {A E : Type 0} (answer : Result A E) (found : Option (List ℕ)) (old new : List ℕ)
    → MatchResult answer (λ _. found ≡ Some new) (λ _. found ≡ None) → IfErr answer (λ _. new ≡ old)
    → MatchOption found (IsErr answer × (new ≡ old)) (λ plain. IsOk answer × (new ≡ plain))
answered (Ok a) found old new told same = rw told (refl, refl)
answered (Err e) found old new told same = rw told (refl, same)

-- the same by what was sealed
pub answered_as_sealed : {A E : Type 0} (answer : Result A E) (keys : KeyAndSalt) (h : Header) (octets old new : List ℕ) (index : ℕ)
    → MatchResult answer (λ _. unsealed_body keys index h octets ≡ Some new) (λ _. unsealed_body keys index h octets ≡ None)
    → IfErr answer (λ _. new ≡ old)
    → MatchResult answer (λ _. octets ≡ sealed_body keys index h new) (λ _. ((plain : List ℕ) → octets ≡ sealed_body keys index h plain → ⊥) × (new ≡ old))
answered_as_sealed (Ok a) keys h octets old new index told same = unsealed_as_sealed keys index h octets new told
answered_as_sealed (Err e) keys h octets old new index told same = (forged_body keys index h octets told, same)

-- ---- answers by what was found

-- Where a value was answered, something was found.
pub found_by : {A E : Type 0} (X : Type 0) (P : List ℕ → Type 0) (answer : Result A E) (value : A) (found : Option (List ℕ)) → answer ≡ Ok value
    → MatchOption found (IsErr answer × X) P → (octets : List ℕ) × (found ≡ Some octets) × P octets
found_by X P answer value None is told =
    let failed = told.0 in
    absurd (cc)
found_by X P answer value (Some octets) is told = (octets, refl, told)

-- Where a fault was answered, nothing was.
pub missed_by : {A E : Type 0} (X : Type 0) (P : List ℕ → Type 0) (value : List ℕ → A) (answer : Result A E) (fault : E) (found : Option (List ℕ))
    → answer ≡ Err fault → MatchOption found X (λ octets. (answer ≡ Ok (value octets)) × P octets) → found ≡ None
missed_by X P value answer fault None is told = refl
missed_by X P value answer fault (Some octets) is told =
    let answered = told.0 in
    absurd (cc)

-- equal values, of answers
pub same_value : {A E : Type 0} (a b : A) → ◌≡◌ {A = Result A E} (Ok a) (Ok b) → a ≡ b
same_value a b same = cc
