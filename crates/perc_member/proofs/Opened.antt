-- What a member sealed hop by hop, opened again: its field is read, and the packet opens to what was sealed.
use Rattle.std.proofs.Common.{◌≡◌, ℕ, ◌+◌, ◌-◌, ◌/◌, ◌%◌, ◌^◌, ◌<◌, ◌≤◌, ◌⊎◌, inl, inr, Bool, true, false, List, [], ◌∷◌, ◌++◌, length, take, drop, get_or, Some, Result, Ok, Err, refl, sym, ap, subst, ◌∙◌, arith}
use Rattle.std.specs.Prelude.{MatchOption, MatchResult, IsErr, if◌then◌else◌}
use Rattle.std.proofs.lemmas.List.{length-append, take_at}
use Rattle.byteorder.specs.Endian.{big_bytes}
use Rattle.perc_kdf.specs.Derivation.{KeyAndSalt, session_keys}
use Rattle.perc_kdf.specs.declared.Kind.TheVariants.{Srtp}
use Rattle.perc_rtp.specs.Header as header
use Rattle.perc_rtp.specs.Header.{Header, IsHeader, IsPacket}
use Rattle.perc_rtp.specs.Media.{Content}
use Rattle.perc_rtp.proofs.HeaderLaws.{one_packet}
use Rattle.perc_gcm.specs.declared.TagMismatch.{TagMismatch}
use Rattle.perc_srtp.specs.Sealed.{BeginsWith, sealed_body, unsealed_body}
use Rattle.perc_srtp.proofs.PacketLaws.{length-sealed_body, sealed_opens}
use Rattle.perc_double.specs.Double.{IsOpened, double, nothing_kept, opened}
use Rattle.perc_keywrap.specs.Wrap.{IsWrapped, wrapped}
use Rattle.perc_keywrap.proofs.WrapLaws.{length-wrapped}
use Rattle.perc_ekt.specs.declared.field.EktField.{EktField}
use Rattle.perc_ekt.specs.declared.field.FieldFault.{FieldFault}
use Rattle.perc_ekt.specs.Field.{Field, Full, IsCipherLength, IsDatagram, IsField, Short, field_of, spelling, told_of}
use Rattle.perc_ekt.specs.Key.{plain_text}
use Rattle.perc_ekt.proofs.Fields.{field_of_ok}
use Rattle.perc_ekt.proofs.Keys.{plain-length, plain-octets}
use Rattle.perc_ekt.proofs.Octets.{behind}
use Rattle.perc_octets.specs.Octets.{AreOctets}
use Rattle.perc_receiver.specs.Table.{IsSecret}
use Rattle.perc_outgoing.specs.Sending.{IsSending, Outgoing, next_place, outer_index, sending_key, sent_datagram, sent_field, sent_header, sent_inner}
use Rattle.perc_outgoing.proofs.Standing.{free_outer}
use Rattle.perc_run.specs.State.{Member}
use Rattle.perc_member.specs.declared.opening.Opening.{Opening}
use Rattle.perc_member.specs.Making.{MaySend, OpensAs}

-- ---- the field

-- The octets of a field are those of one whose numbers fit.
pub record IsSpelledAs (f : Field) : Type 0 where
  pub field : Field
  pub fits : IsField field
  pub same : spelling field ≡ spelling f

two_octets : (n : ℕ) → big_bytes 2 (n % 65536) ≡ big_bytes 2 n
two_octets n =
    let high : n % 65536 / 256 % 256 ≡ n / 256 % 256 = omega arith in
    let low : n % 65536 % 256 ≡ n % 256 = omega arith in
    λ i. high i ∷ low i ∷ []

spelled_full : (cipher : List ℕ) (spi epoch : ℕ) → IsCipherLength (length cipher) → IsSpelledAs (Full cipher spi epoch)
unfolding spelling
spelled_full cipher spi epoch size = record {
  field = Full cipher (spi % 65536) (epoch % 65536);
  fits = (size, omega arith, omega arith);
  same = λ i. cipher ++ two_octets spi i ++ two_octets epoch i ++ big_bytes 2 (length cipher + 7) ++ 2 ∷ [];
}

spelled_as : (full : Bool) (cipher : List ℕ) (spi epoch : ℕ) → IsCipherLength (length cipher) → IsSpelledAs (if full then Full cipher spi epoch else Short)
spelled_as true cipher spi epoch size = spelled_full cipher spi epoch size
spelled_as false cipher spi epoch size = record { field = Short; fits = tt; same = refl }

wrapped_size : (ekt key : List ℕ) (ssrc roc : ℕ) → (length key ≡ 16) ⊎ (length key ≡ 32) → AreOctets key → IsCipherLength (length (wrapped ekt (plain_text key ssrc roc)))
wrapped_size ekt key ssrc roc size octets =
    let plain : List ℕ = plain_text key ssrc roc in
    let few : (16 ≤ length key) × (length key ≤ 32) = elim size [ inl short ↦ (omega arith, omega arith) | inr long ↦ (omega arith, omega arith) ] in
    let long : length plain ≡ length key + 9 = plain-length key ssrc roc in
    let is : IsWrapped ekt plain (wrapped ekt plain) = record {
      some = omega (arith, few.0);
      few = omega (arith, few.1);
      in_range = plain-octets key ssrc roc (omega (arith, few.1)) octets;
      value = refl;
    } in
    let whole = length-wrapped ekt plain (wrapped ekt plain) is in
    (omega (arith, few.0), omega (arith, few.1), omega arith)

key_size : (m : Member) → MaySend m → (length (sending_key m.endpoint.sending).key ≡ 16) ⊎ (length (sending_key m.endpoint.sending).key ≡ 32)
key_size m may = subst (λ (n : ℕ). (n ≡ 16) ⊎ (n ≡ 32)) (sym may.sending.size) may.secret.size

field_fits : (m : Member) → MaySend m → IsSpelledAs (sent_field m.endpoint.sending)
field_fits m may =
    let out = m.endpoint.sending in
    let place = next_place out in
    let key = (sending_key out).key in
    spelled_as place.full (wrapped out.secret.key (plain_text key out.sending.ssrc (place.index / 65536))) place.spi place.epoch
    (wrapped_size out.secret.key key out.sending.ssrc (place.index / 65536) (key_size m may) may.sending.octets)

-- the packet, sealed hop by hop
abbrev sealed_packet : Member → Content → List ℕ
sealed_packet m content =
    let out = m.endpoint.sending in
    double (session_keys out.client Srtp) (outer_index out) (sent_header out content) (sent_inner out content) nothing_kept

parts_are : (m : Member) (content : Content) → sent_datagram m.endpoint.sending content ≡ sealed_packet m content ++ spelling (sent_field m.endpoint.sending)
unfolding sent_datagram
parts_are m content = refl

-- The field of a member's datagram is read, and is as long as what is read of it.
pub record IsReadAt (m : Member) (content : Content) (datagram : List ℕ) (n : ℕ) : Type 0 where
  pub whole : datagram ≡ sealed_packet m content ++ spelling (sent_field m.endpoint.sending)
  pub len : length (spelling (sent_field m.endpoint.sending)) ≡ n

-- what is told of the field
pub field_told : (opening : Opening) (m : Member) (content : Content) (datagram : List ℕ) (r : Result (EktField × ℕ) FieldFault) → AreOctets datagram
    → OpensAs opening m content datagram
    → MatchResult (field_of datagram) (λ read. r ≡ Ok (told_of read.1 (length read.0), length (spelling read.1))) (λ fault. r ≡ Err fault)
    → (told : EktField) × (r ≡ Ok (told, length (spelling (sent_field m.endpoint.sending))))
field_told opening m content datagram r octets o answer =
    let f = field_fits m o.may in
    let packet : List ℕ = sealed_packet m content in
    let is : IsDatagram packet f.field datagram = record { fits = f.fits; octets = o.datagram_is ∙ parts_are m content ∙ ap (λ (xs : List ℕ). packet ++ xs) (sym f.same) } in
    let read = (field_of_ok packet f.field datagram octets).1 is in
    let told = rw read at answer in
    (told_of f.field (length packet), told ∙ ap (λ (xs : List ℕ). Ok (told_of f.field (length packet), length xs)) f.same)

pub read_at : (opening : Opening) (m : Member) (content : Content) (datagram : List ℕ) (r : Result (EktField × ℕ) FieldFault) (read : EktField × ℕ) → AreOctets datagram
    → OpensAs opening m content datagram
    → MatchResult (field_of datagram) (λ read. r ≡ Ok (told_of read.1 (length read.0), length (spelling read.1))) (λ fault. r ≡ Err fault)
    → r ≡ Ok read → IsReadAt m content datagram read.1
read_at opening m content datagram r read octets o answer is =
    let told = field_told opening m content datagram r octets o answer in
    let n : ℕ = length (spelling (sent_field m.endpoint.sending)) in
    let same : (told.0, n) ≡ read = (let e : Ok (told.0, n) ≡ Ok read = sym told.1 ∙ is in cc) in
    record { whole = o.datagram_is ∙ parts_are m content; len = ap (λ (p : EktField × ℕ). p.1) same }

-- ---- the packet

pub index_below : (opening : Opening) (m : Member) (content : Content) (datagram : List ℕ) → OpensAs opening m content datagram → opening.next < 2 ^ 48
index_below opening m content datagram o =
    let free = free_outer m.endpoint.sending o.may.sending.outer (omega (arith, o.may.left)) in
    omega (arith, o.next, free.within, o.may.left)

-- what is opened: the header, and what was sealed behind it
abbrev pub sealed_behind : Opening → Member → Content → List ℕ
sealed_behind opening m content =
    let out = m.endpoint.sending in
    sealed_body opening.keys opening.next (sent_header out content) (opened (sent_inner out content) nothing_kept)

pub packet_stands : (opening : Opening) (m : Member) (content : Content) (datagram front : List ℕ) (n : ℕ) → OpensAs opening m content datagram
    → IsReadAt m content datagram n → front ≡ take (length datagram - n) datagram
    → IsPacket (sent_header m.endpoint.sending content) (sealed_behind opening m content) front
packet_stands opening m content datagram front n o is front_is =
    let out = m.endpoint.sending in
    let h : Header = sent_header out content in
    let body : List ℕ = opened (sent_inner out content) nothing_kept in
    let packet : List ℕ = sealed_packet m content in
    let field : List ℕ = spelling (sent_field out) in
    let size : length packet ≡ length datagram - n = omega (arith, ap length is.whole, length-append packet field, is.len) in
    let whole : front ≡ packet = front_is ∙ ap (take (length datagram - n)) is.whole ∙ take_at packet field (length datagram - n) size in
    record { header = o.header; octets = whole ∙ (λ i. header.spelling h ++ sealed_body (sym o.keys i) (sym o.next i) h body) }

pub has_tag : (h g : Header) (rest packet : List ℕ) (keys : KeyAndSalt) (index : ℕ) (body : List ℕ) → IsPacket h (sealed_body keys index h body) packet
    → IsPacket g rest packet → 16 ≤ length rest
has_tag h g rest packet keys index body is other =
    let same = (one_packet h g (sealed_body keys index h body) rest packet is other).1 in
    omega (arith, ap length same, length-sealed_body keys index h body)

-- It opens to what was sealed.
pub opens_to : (h : Header) (keys : KeyAndSalt) (index : ℕ) (body old new : List ℕ) (r : Result ℕ TagMismatch)
    → MatchOption (unsealed_body keys index h (sealed_body keys index h body)) (IsErr r × (new ≡ old)) (λ b. (r ≡ Ok (length (header.spelling h ++ b))) × BeginsWith (header.spelling h ++ b) new)
    → (r ≡ Ok (length (header.spelling h ++ body))) × BeginsWith (header.spelling h ++ body) new
opens_to h keys index body old new r answer = rw (sealed_opens keys index h (sealed_body keys index h body) body refl) at answer

pub opened_packet : (h : Header) (inner kept new : List ℕ) (r : Result ℕ TagMismatch) (len : ℕ) → IsHeader h
    → (r ≡ Ok (length (header.spelling h ++ opened inner nothing_kept))) × BeginsWith (header.spelling h ++ opened inner nothing_kept) new → r ≡ Ok len
    → kept ≡ take len new → IsOpened h inner nothing_kept kept
opened_packet h inner kept new r len is opens is_len kept_is =
    let front : List ℕ = header.spelling h ++ opened inner nothing_kept in
    let same : len ≡ length front = (let e = opens.0 in cc) in
    record {
      block = record { pt = tt; seq = tt };
      reads = record { header = is; octets = kept_is ∙ ap (λ (n : ℕ). take n new) same ∙ opens.1 };
    }

-- The field stands at the end.
pub field_stands : (m : Member) (content : Content) (datagram : List ℕ) (n : ℕ) → IsReadAt m content datagram n → drop (length datagram - n) datagram ≡ spelling (sent_field m.endpoint.sending)
field_stands m content datagram n is = behind (sealed_packet m content) (spelling (sent_field m.endpoint.sending)) datagram n is.whole is.len

pub field_within : (m : Member) (content : Content) (datagram : List ℕ) (n : ℕ) → IsReadAt m content datagram n → n ≤ length datagram
field_within m content datagram n is =
    omega (arith, ap length is.whole, length-append (sealed_packet m content) (spelling (sent_field m.endpoint.sending)), is.len)
