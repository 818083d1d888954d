-- Every datagram is of octets, whoever made it, and what is known unsealed of it has its parts in range. So the SSRCs that the
-- distributor reads have 32 bits.
use Rattle.std.proofs.Common.{◌≡◌, ℕ, zero, suc, ◌+◌, ◌-◌, ◌^◌, ◌<◌, ◌≤◌, ◌⊎◌, Bool, true, false, cond, replicate, List, [], ◌∷◌, ◌++◌, length, drop, take, Option, Some, None, Result, Ok, Err}
use Rattle.std.proofs.Common.{inl, inr, refl, sym, subst, arith}
use Rattle.std.specs.Prelude.{◌==◌, ◌&&◌, ◌*◌, ◌%◌, IsTrue, is_some, nat_le, nat_lt, not, All, IfSome, filter}
use Rattle.std.specs.List.{cons_option, filter_map, slice_get}
use Rattle.std.specs.Option.{option_map}
use Rattle.std.proofs.lemmas.Bool.{and_parts, eqb-true, leb-true, or_cases}
use Rattle.std.proofs.lemmas.List.{drop_at, length-drop, length-take-le, take-append-drop, take_at}
use Rattle.std.proofs.lemmas.List.Elements.{All-append, All-contains, All-cons, All-filter, All-head, All-nil, All-push, All-tail}
use Rattle.byteorder.specs.Endian.{big_bytes}
use Rattle.perc_aes.specs.Cipher.{IsKey}
use Rattle.perc_contexts.proofs.ReceivingLaws.{found_of}
use Rattle.perc_gcm.specs.Gcm.{ciphertext, sealed_text, tag}
use Rattle.perc_gcm.proofs.GcmLaws.{ciphertext_octets, ciphertext_twice, sealed_as}
use Rattle.perc_kdf.specs.Derivation.{IsMaster, IsSession, KeyAndSalt, session_keys}
use Rattle.perc_kdf.specs.declared.Kind.TheVariants.{Srtp, Srtcp}
use Rattle.perc_kdf.proofs.SessionLaws.{IsSession-session_keys}
use Rattle.perc_keywrap.specs.Wrap.{wrapped}
use Rattle.perc_keywrap.proofs.WrapLaws.{wrapped_in_range}
use Rattle.perc_rtp.specs.Carried.{kind_of}
use Rattle.perc_rtp.specs.Fields.{cut}
use Rattle.perc_rtp.specs.Header.{Header, IsExtension, IsHeader, bit, spelling as header_spelling}
use Rattle.perc_rtp.specs.Media.{Content, is_payload_type, padding_octets, rest_of}
use Rattle.perc_rtp.specs.declared.carried.Carried.{Carried}
use Rattle.perc_rtp.specs.declared.carried.Carried.TheVariants as carried
use Rattle.perc_rtp.proofs.HeaderLaws.{spelling-octets}
use Rattle.perc_octets.proofs.Octets.{AreOctets-drop, AreOctets-take}
use Rattle.perc_rtp.proofs.Octets.{AreOctets-all}
use Rattle.perc_ohb.specs.Block.{IsOhb, config, marker_bits, pt_octets, seq_octets, spelling as block_spelling}
use Rattle.perc_ohb.specs.declared.block.Ohb.{Ohb}
use Rattle.perc_ohb.specs.Rewriting.{IsExtensionSet, IsRewrite, Rewrite, block_after}
use Rattle.perc_ohb.proofs.RewritingLaws.{IsOhb-after}
use Rattle.perc_ekt.specs.Field.{Field, Full, Short, spelling as field_spelling}
use Rattle.perc_ekt.specs.Key.{plain_text}
use Rattle.perc_ekt.proofs.Keys.{plain-length, plain-octets}
use Rattle.perc_srtp.specs.Sealed.{rtcp_aad, rtcp_iv, rtcp_ssrc, rtcp_word, sealed_body, sealed_rtcp}
use Rattle.perc_srtp.specs.Streams.{rtcp_opened}
use Rattle.perc_srtp.specs.declared.rtcp.RtcpFault.{RtcpFault}
use Rattle.perc_srtp.proofs.PacketLaws.{below_append, iv_octets, length-iv, length-rtcp_iv, number_below, rtcp_iv_octets, sealed_body_octets}
use Rattle.perc_srtp.proofs.RtcpLaws.{sealed_rtcp_octets}
use Rattle.perc_srtp.proofs.Streaming.{rtcp_opens_as_sealed}
use Rattle.perc_double.specs.Double.{double, nothing_kept, opened, relayed}
use Rattle.perc_double.proofs.RelayLaws.{IsHeader-relayed}
use Rattle.perc_keyset.specs.Set.{entry_of, is_of}
use Rattle.perc_keyset.specs.declared.Entry.{Entry}
use Rattle.perc_outer.specs.Datagram as outer
use Rattle.perc_outer.specs.Datagram.{Opened, Reach, Reached, reached}
use Rattle.perc_outer.specs.Streams.{OuterStream}
use Rattle.perc_outer.proofs.Outer.{is_reached}
use Rattle.perc_octets.specs.Octets.{AreOctets}
use Rattle.perc_receiver.specs.Table.{IsSecret, Secret, inner_keys}
use Rattle.perc_sender.specs.Schedule.{roll_over}
use Rattle.perc_outgoing.specs.Sending.{IsSending, Outgoing, next_place, outer_index, sending_key, sent_datagram, sent_field, sent_header, sent_inner}
use Rattle.perc_distributor.specs.declared.fault.ForwardFault.{ForwardFault}
use Rattle.perc_distributor.specs.declared.fault.InboundFault.{InboundFault}
use Rattle.perc_distributor.specs.Inbound.{Control, Heard, Media, Packet, heard_of, in_set, taken, taken_control, taken_of, taken_reach}
use Rattle.perc_distributor.specs.Forwarding.{Dropped, Sealed, Sealing, Sent, is_named, is_owned, media_index, media_step, recipients, sealing_of, sent_each, sent_from, sent_media, sent_to, source_of, with_sealing}
use Rattle.perc_word.specs.Word.{Also, AreSomeOctets, IsName}
use Rattle.perc_word.proofs.Spelling.{bytes_from}
use Rattle.perc_script_line.specs.Script.{AreChanges, By, Changes, Dropped as Taken, IsReplaced, IsScript, Options, Replaced, Send, extension_of, is_extension, is_pair}
use Rattle.perc_run.specs.State.{Datagram, Member, Unsealed, datagram_at}
use Rattle.perc_run.specs.Joining.{pair_of as pair_in}
use Rattle.perc_run.specs.Sending.{sent_by}
use Rattle.perc_run.specs.Control.{control_by}
use Rattle.perc_run.specs.Hostile.{altered, grafted, resealed, unsealed_anew}
use Rattle.perc_run.specs.Forwarding.{Taking, extension_set, numbered, packet_in, place_behind, place_of as batch_place, reported_outputs, reported_taking, reported_takings, rewrite_by, takings, unsealed_of}
use Rattle.perc_headline.proofs.Lookups.{contains_at}
use Rattle.perc_headline.proofs.Sends.{IsMedia, said_media}
use Rattle.perc_headline.proofs.Sealing.{HasParts, PacketFits, control_step}

-- ---- a datagram

abbrev pub UnsealedFits : Option Unsealed → Type 0
UnsealedFits None = Unit {0}
UnsealedFits (Some u) = HasParts u.header u.inner u.block u.field

-- It is of octets, and what is known of it unsealed has its parts in range.
pub record Fits (d : Datagram) : Type 0 where
  pub octets : AreOctets d.octets
  pub before : UnsealedFits d.unsealed

-- ---- octets

one_octet : (x : ℕ) → x < 256 → AreOctets (x ∷ [])
one_octet x small zero = small
one_octet x small (suc k) = omega arith

front_octets : (xs ys : List ℕ) → AreOctets (xs ++ ys) → AreOctets xs
front_octets xs ys all = subst AreOctets (take_at xs ys (length xs) refl) (AreOctets-take (length xs) (xs ++ ys) all)

back_octets : (xs ys : List ℕ) → AreOctets (xs ++ ys) → AreOctets ys
back_octets xs ys all = subst AreOctets (drop_at xs ys (length xs) refl) (AreOctets-drop (length xs) (xs ++ ys) all)

-- What was sealed to octets are octets.
text_octets : (key iv aad text : List ℕ) → IsKey key → length iv ≡ 12 → AreOctets iv → AreOctets (sealed_text key iv aad text) → AreOctets text
text_octets key iv aad text is size salt all =
    let c : List ℕ = ciphertext key iv text in
    let t : List ℕ = tag key iv aad c in
    let octets : AreOctets c = front_octets c t (subst AreOctets (sym (sealed_as key iv aad text c t refl refl)) all) in
    subst AreOctets (ciphertext_twice key iv text) (ciphertext_octets key iv c is size salt octets)

body_octets : (keys : KeyAndSalt) (index : ℕ) (h : Header) (body : List ℕ) → IsSession keys → AreOctets (sealed_body keys index h body) → AreOctets body
unfolding sealed_body
body_octets keys index h body session all =
    text_octets keys.key _ (header_spelling h) body session.key (length-iv keys.salt h.ssrc index) (iv_octets keys.salt h.ssrc index session.salt_octets) all

plain_octets : (keys : KeyAndSalt) (index : ℕ) (plain : List ℕ) → IsSession keys → AreOctets (sealed_rtcp keys index plain) → AreOctets plain
unfolding sealed_rtcp
plain_octets keys index plain session all =
    let v : List ℕ = rtcp_iv keys.salt (rtcp_ssrc plain) index in
    let s : List ℕ = sealed_text keys.key v (rtcp_aad index plain) (drop 8 plain) in
    let front : AreOctets (take 8 plain ++ s) = front_octets (take 8 plain ++ s) (rtcp_word index) all in
    let back : AreOctets (drop 8 plain) =
    text_octets keys.key v (rtcp_aad index plain) (drop 8 plain) session.key (length-rtcp_iv keys.salt (rtcp_ssrc plain) index)
    (rtcp_iv_octets keys.salt (rtcp_ssrc plain) index session.salt_octets) (back_octets (take 8 plain) s front) in
    subst AreOctets (take-append-drop 8 plain) (below_append (take 8 plain) (drop 8 plain) (front_octets (take 8 plain) s front) back)

-- ---- a media packet

header_octets : (h : Header) → IsHeader h → AreOctets (header_spelling h)
header_octets h is = AreOctets-all (header_spelling h) (spelling-octets h is)

pt_part : (o : Option ℕ) → IfSome o (λ pt. pt < 128) → AreOctets (pt_octets o)
pt_part None is = λ k. omega arith
pt_part (Some pt) is = one_octet pt (omega arith)

seq_part : (o : Option ℕ) → AreOctets (seq_octets o)
seq_part None = λ k. omega arith
seq_part (Some seq) = number_below 2 seq

bit_small : (b : Bool) → bit b ≤ 1
bit_small true = omega arith
bit_small false = omega arith

marker_small : (m : Option Bool) → marker_bits m ≤ 12
marker_small None = omega arith
marker_small (Some marker) = let one = bit_small marker in omega arith

config_small : (marker pt seq : ℕ) → marker ≤ 12 → pt ≤ 1 → seq ≤ 1 → marker + 2 * pt + seq < 256
config_small marker pt seq m p q = omega arith

block_octets : (o : Ohb) → IsOhb o → AreOctets (block_spelling o)
unfolding block_spelling
block_octets o is =
    below_append (pt_octets o.pt ++ seq_octets o.seq) (config o ∷ []) (below_append (pt_octets o.pt) (seq_octets o.seq) (pt_part o.pt is.pt) (seq_part o.seq))
    (one_octet (config o) (config_small (marker_bits o.marker) (bit (is_some o.pt)) (bit (is_some o.seq)) (marker_small o.marker) (bit_small (is_some o.pt)) (bit_small (is_some o.seq))))

-- Its parts, sealed, are octets.
sealed_parts : (keys : KeyAndSalt) (index : ℕ) (h : Header) (inner : List ℕ) (block : Ohb) (field : Field) → IsSession keys → HasParts h inner block field
    → AreOctets (double keys index h inner block ++ field_spelling field)
sealed_parts keys index h inner block field session p =
    let body : List ℕ = opened inner block in
    below_append (double keys index h inner block) (field_spelling field)
    (below_append (header_spelling h) (sealed_body keys index h body) (header_octets h p.header_is)
    (sealed_body_octets keys index h body session (below_append inner (block_spelling block) p.inner_is (block_octets block p.block_is)))) p.field_is

-- A change leaves them in range.
parts_after : (h : Header) (inner : List ℕ) (block : Ohb) (field : Field) (change : Rewrite) → IsRewrite change → HasParts h inner block field
    → HasParts (relayed h change) inner (block_after h block change) field
parts_after h inner block field change may p = record {
  header_is = IsHeader-relayed h change p.header_is may;
  inner_is = p.inner_is;
  block_is = IsOhb-after h block change p.header_is p.block_is;
  field_is = p.field_is;
}

-- ---- changes

-- An extension that a change sets is one that a packet may be sent with.
change_extension : (name octets : List ℕ) → IsName name → Also AreSomeOctets is_extension octets → IsExtension (extension_of octets) × (length (extension_of octets).1 ≤ 120)
change_extension name octets named is =
    let options : Options = record { csrcs = None; extension = Some octets; pad = None } in
    let said : IsScript (Send name 0 false 0 [] options) =
    (named, record { fits = omega arith; passes = refl }, omega arith, refl, record { csrcs = tt; extension = is; pad = tt }, refl) in
    let media = said_media name 0 false 0 [] options said in
    let few : length octets ≤ 122 = leb-true (length octets) 122 (and_parts (length octets % 4 == 2) (nat_le (length octets) 122) is.passes).1 in
    let size = length-drop 2 octets in
    ((media.header 0 0 (omega arith) (omega arith)).extension, omega arith)

replaced_fits : (name : List ℕ) (o : Option Replaced) → IsName name → IfSome o IsReplaced → IsExtensionSet (option_map extension_set o)
replaced_fits name None named is = tt
replaced_fits name (Some Taken) named is = tt
replaced_fits name (Some (By octets)) named is = change_extension name octets named is

payload_type : (o : Option ℕ) → IfSome o (Also (λ pt. pt ≤ 127) is_payload_type) → IfSome o (λ pt. IsTrue (is_payload_type pt))
payload_type None is = tt
payload_type (Some pt) is = is.passes

-- What the words of a line change may be changed.
pub words_change : (name : List ℕ) (c : Changes) → IsName name → AreChanges c → IsRewrite (rewrite_by c)
words_change name c named are = record { pt = payload_type c.pt are.pt; extension = replaced_fits name c.extension named are.extension }

-- ---- what members send

zeros_octets : (n : ℕ) → AreOctets (replicate n 0)
zeros_octets zero k = omega arith
zeros_octets (suc n) zero = omega arith
zeros_octets (suc n) (suc k) = zeros_octets n k

padding_small : (n : ℕ) → n < 256 → AreOctets (padding_octets n)
padding_small zero small = λ k. omega arith
padding_small (suc n) small = below_append (replicate n 0) (suc n ∷ []) (zeros_octets n) (one_octet (suc n) small)

ekt_key : (s : Secret) → IsSecret s → IsKey s.key
ekt_key s is = record { size = elim is.size [ inl short ↦ inl short | inr long ↦ inr (inr long) ]; octets = is.key }

-- the inner master of a key under a secret
inner_master : (s : Secret) (key : List ℕ) → IsSecret s → length key ≡ length s.key → AreOctets key → IsMaster (record { key = key; salt = s.salt })
inner_master s key is size octets =
    record { key_size = subst (λ (n : ℕ). (n ≡ 16) ⊎ (n ≡ 32)) (sym size) is.size; key_octets = octets; salt_size = is.salt_size; salt_octets = is.salt }

wrapped_octets : (s : Secret) (key : List ℕ) (ssrc roc : ℕ) → IsSecret s → length key ≡ length s.key → AreOctets key → AreOctets (wrapped s.key (plain_text key ssrc roc))
wrapped_octets s key ssrc roc is size octets =
    let few : length s.key ≤ 32 = elim is.size [ inl short ↦ omega arith | inr long ↦ omega arith ] in
    let plain : List ℕ = plain_text key ssrc roc in
    let long : length plain ≡ length key + 9 = plain-length key ssrc roc in
    wrapped_in_range s.key plain (wrapped s.key plain) (ekt_key s is)
    (record { some = omega arith; few = omega arith; in_range = plain-octets key ssrc roc (omega arith) octets; value = refl })

field_octets : (full : Bool) (cipher : List ℕ) (spi epoch : ℕ) → AreOctets cipher → AreOctets (field_spelling (cond full (Full cipher spi epoch) Short))
unfolding field_spelling
field_octets false cipher spi epoch all = one_octet 0 (omega arith)
field_octets true cipher spi epoch all =
    let first : List ℕ = cipher ++ big_bytes 2 spi in
    let second : List ℕ = first ++ big_bytes 2 epoch in
    let third : List ℕ = second ++ big_bytes 2 (length cipher + 7) in
    let of_first : AreOctets first = below_append cipher (big_bytes 2 spi) all (number_below 2 spi) in
    let of_second : AreOctets second = below_append first (big_bytes 2 epoch) of_first (number_below 2 epoch) in
    let of_third : AreOctets third = below_append second (big_bytes 2 (length cipher + 7)) of_second (number_below 2 (length cipher + 7)) in
    below_append third (2 ∷ []) of_third (one_octet 2 (omega arith))

sent_parts : (o : Outgoing) (c : Content) → IsMedia c → IsSending o → IsSecret o.secret → HasParts (sent_header o c) (sent_inner o c) nothing_kept (sent_field o)
sent_parts o c media is secret =
    let key : List ℕ = (sending_key o).key in
    let body : AreOctets (rest_of c) = below_append c.payload (padding_octets c.pad) media.content.payload (padding_small c.pad media.content.pad) in
    let master : IsMaster (record { key = key; salt = o.secret.salt }) = inner_master o.secret key secret is.size is.octets in
    record {
      header_is = media.header (o.sending.next % 65536) o.sending.ssrc (omega arith) is.ssrc;
      inner_is = sealed_body_octets (inner_keys o.secret key) o.sending.next (cut (sent_header o c)) (rest_of c)
          (IsSession-session_keys (record { key = key; salt = o.secret.salt }) Srtp master) body;
      block_is = record { pt = tt; seq = tt };
      field_is = field_octets (next_place o).full _ (next_place o).spi (next_place o).epoch
          (wrapped_octets o.secret key o.sending.ssrc (roll_over (next_place o).index) secret is.size is.octets);
    }

pub sent_fits : (m : Member) (c : Content) → IsMedia c → IsSending m.endpoint.sending → IsSecret m.endpoint.sending.secret → IsMaster m.endpoint.sending.client → Fits (sent_by m c)
unfolding sent_datagram
sent_fits m c media is secret master =
    let o : Outgoing = m.endpoint.sending in
    let parts = sent_parts o c media is secret in record {
      octets = sealed_parts (session_keys o.client Srtp) (outer_index o) (sent_header o c) (sent_inner o c) nothing_kept (sent_field o)
          (IsSession-session_keys o.client Srtp master) parts;
      before = parts;
    }

pub control_fits : (m : Member) (plain : List ℕ) → IsMaster m.endpoint.sending.client → AreOctets plain → Fits (control_by m plain)
control_fits m plain master all =
    let o : Outgoing = m.endpoint.sending in
    record { octets = sealed_rtcp_octets (session_keys o.client Srtcp) o.rtcp plain (IsSession-session_keys o.client Srtcp master) all; before = tt }

-- ---- what others make

pub made_fits : (octets : List ℕ) → AreOctets octets → Fits (record { octets = octets; unsealed = None })
made_fits octets all = record { octets = all; before = tt }

pub altered_octets : (octets : List ℕ) (offset : ℕ) (new : List ℕ) → AreOctets octets → AreOctets new → AreOctets (altered octets offset new)
altered_octets octets offset new all more =
    below_append (take offset octets ++ new) (drop (offset + length new) octets)
    (below_append (take offset octets) new (AreOctets-take offset octets all) more) (AreOctets-drop (offset + length new) octets all)

pub grafted_octets : (first : List ℕ) (front : ℕ) (second : List ℕ) (back : ℕ) → AreOctets first → AreOctets second → AreOctets (grafted first front second back)
grafted_octets first front second back one two =
    below_append (take front first) (drop (length second - back) second) (AreOctets-take front first one) (AreOctets-drop (length second - back) second two)

pub resealed_fits : (m : Member) (roc : ℕ) (u : Unsealed) (change : Rewrite) → IsMaster m.server → IsRewrite change → UnsealedFits (Some u) → Fits (resealed m roc (unsealed_anew u change))
resealed_fits m roc u change master may p =
    let parts = parts_after u.header u.inner u.block u.field change may p in
    let anew : Unsealed = unsealed_anew u change in
    record {
      octets = sealed_parts (session_keys m.server Srtp) (roc * 65536 + anew.header.seq) anew.header anew.inner anew.block anew.field
          (IsSession-session_keys m.server Srtp master) parts;
      before = parts;
    }

pub found_fits : (datagrams : List Datagram) (number : ℕ) (d : Datagram) → All Fits datagrams → datagram_at datagrams number ≡ Some d → Fits d
found_fits datagrams number d all e = by (number == 0) e where
  by : (none : Bool) → cond none None (slice_get datagrams (number - 1)) ≡ Some d → Fits d
  by true is = absurd (cc)
  by false is = All-contains Fits datagrams d all (contains_at datagrams (number - 1) d is)

-- ---- what is opened

-- a key of either profile, and the salt behind it
pub pair_master : (octets : List ℕ) → Also AreSomeOctets is_pair octets → IsMaster (pair_in octets)
pair_master octets is =
    let bytes = bytes_from octets is.fits.octets in
    let size : (length octets ≡ 28) ⊎ (length octets ≡ 44) =
    elim (or_cases (length octets == 28) (length octets == 44) is.passes) [
      | inl short ↦ inl (eqb-true (length octets) 28 short)
      | inr long ↦ inr (eqb-true (length octets) 44 long)
    ] in
    let few : 12 ≤ length octets = elim size [ inl short ↦ omega arith | inr long ↦ omega arith ] in
    let key = length-take-le (length octets - 12) octets (omega arith) in
    let salt = length-drop (length octets - 12) octets in
    record {
      key_size = elim size [ inl short ↦ inl (omega arith) | inr long ↦ inr (omega arith) ];
      key_octets = AreOctets-take (length octets - 12) octets bytes;
      salt_size = omega arith;
      salt_octets = AreOctets-drop (length octets - 12) octets bytes;
    }

-- The entry's pairs are masters.
pub record HasMasters (e : Entry) : Type 0 where
  pub client : IsMaster e.client
  pub server : IsMaster e.server

reached_parts : (keys : KeyAndSalt) (streams : List OuterStream) (datagram : List ℕ) (o : Opened) → IsSession keys → AreOctets datagram → reached keys None streams datagram ≡ Reached o
    → HasParts o.header o.inner o.block o.field
reached_parts keys streams datagram o session all is =
    let r = is_reached keys None streams datagram o session all is in
    let whole : AreOctets (r.packet ++ field_spelling o.field) = subst AreOctets r.is_datagram.octets all in
    let packet : AreOctets (header_spelling o.header ++ r.rest) = subst AreOctets r.is_packet.octets (front_octets r.packet (field_spelling o.field) whole) in
    let rest : AreOctets r.rest = back_octets (header_spelling o.header) r.rest packet in
    let body : AreOctets (o.inner ++ block_spelling o.block) = body_octets keys o.index o.header (o.inner ++ block_spelling o.block) session (subst AreOctets r.sealed rest) in
    record {
      header_is = r.is_packet.header;
      inner_is = front_octets o.inner (block_spelling o.block) body;
      block_is = r.block;
      field_is = back_octets r.packet (field_spelling o.field) whole;
    }

-- what is opened, if anything
abbrev pub ResultFits : Result Packet InboundFault → Type 0
ResultFits (Ok packet) = PacketFits packet
ResultFits (Err f) = Unit {0}

abbrev pub TakingFits : Taking → Type 0
TakingFits t = ResultFits t.result

reach_fits : (set : List Entry) (heard : List Heard) (e : Entry) (datagram : List ℕ) (reach : Reach) → reached (session_keys e.client Srtp) None (heard_of heard e.serial).streams datagram ≡ reach
    → HasMasters e → AreOctets datagram → ResultFits (taken_reach set heard e reach).0
reach_fits set heard e datagram (outer.Refused f) is masters all = tt
reach_fits set heard e datagram (outer.Blocked ssrc index f) is masters all = tt
reach_fits set heard e datagram (outer.Reached o) is masters all =
    reached_parts (session_keys e.client Srtp) (heard_of heard e.serial).streams datagram o (IsSession-session_keys e.client Srtp masters.client) all is

opened_control : (set : List Entry) (heard : List Heard) (e : Entry) (datagram : List ℕ) (found : Result (ℕ × List ℕ) RtcpFault)
    → rtcp_opened (session_keys e.client Srtcp) (heard_of heard e.serial).rtcp datagram ≡ found → HasMasters e → AreOctets datagram → ResultFits (taken_control set heard e found).0
opened_control set heard e datagram (Err f) is masters all = tt
opened_control set heard e datagram (Ok found) is masters all =
    let was = rtcp_opens_as_sealed (session_keys e.client Srtcp) (heard_of heard e.serial).rtcp datagram found.0 found.1 is in
    plain_octets (session_keys e.client Srtcp) found.0 found.1 (IsSession-session_keys e.client Srtcp masters.client) (subst AreOctets was.1 all)

taken_by : (set : List Entry) (heard : List Heard) (kind : Carried) (entry : Option Entry) (datagram : List ℕ) → ((e : Entry) → entry ≡ Some e → HasMasters e) → AreOctets datagram
    → ResultFits (taken_of set heard kind entry datagram).0
taken_by set heard carried.Dtls entry datagram masters all = tt
taken_by set heard carried.Other entry datagram masters all = tt
taken_by set heard carried.Rtp None datagram masters all = tt
taken_by set heard carried.Rtcp None datagram masters all = tt
taken_by set heard carried.Rtp (Some e) datagram masters all =
    reach_fits set heard e datagram (reached (session_keys e.client Srtp) None (heard_of heard e.serial).streams datagram) refl (masters e refl) all
taken_by set heard carried.Rtcp (Some e) datagram masters all =
    opened_control set heard e datagram (rtcp_opened (session_keys e.client Srtcp) (heard_of heard e.serial).rtcp datagram) refl (masters e refl) all

taken_fits : (set : List Entry) (heard : List Heard) (from : List ℕ) (d : Datagram) → All HasMasters set → Fits d → ResultFits (taken set heard from d.octets).0
unfolding taken
taken_fits set heard from d masters fits =
    taken_by set heard (kind_of d.octets) (entry_of set from) d.octets (λ e found. All-contains HasMasters set e masters (found_of (is_of from) set e found).0) fits.octets

-- What is opened of datagrams fits,
pub opened_fit : (set : List Entry) (heard : List Heard) (from : List ℕ) (datagrams : List (ℕ × Datagram)) → All HasMasters set → All (λ (d : ℕ × Datagram). Fits d.1) datagrams
    → All TakingFits (takings set heard from datagrams).0
opened_fit set heard from [] masters all = All-nil TakingFits
opened_fit set heard from (d ∷ datagrams) masters all =
    let one = taken set heard from d.1.octets in
    let P : ℕ × Datagram → Type 0 = λ x. Fits x.1 in
    let t : Taking = record { number = d.0; result = one.0 } in
    All-cons TakingFits t (takings set one.1 from datagrams).0 (taken_fits set heard from d.1 masters (All-head P d datagrams all))
    (opened_fit set one.1 from datagrams masters (All-tail P d datagrams all))

packet_more : (number : ℕ) (r : Result Packet InboundFault) (packets : List Packet) → ResultFits r → All PacketFits packets
    → All PacketFits (cons_option (packet_in (record { number = number; result = r })) packets)
packet_more number (Err f) packets fits all = all
packet_more number (Ok packet) packets fits all = All-cons PacketFits packet packets fits all

-- and so do the packets of the batch.
pub batch_fits : (list : List Taking) → All TakingFits list → All PacketFits (filter_map packet_in list)
batch_fits [] all = All-nil PacketFits
batch_fits (t ∷ list) all =
    packet_more t.number t.result (filter_map packet_in list) (All-head TakingFits t list all) (batch_fits list (All-tail TakingFits t list all))

numbered_one : (n : ℕ) (found : Option Datagram) (rest : List (ℕ × Datagram)) → ((d : Datagram) → found ≡ Some d → Fits d) → All (λ (d : ℕ × Datagram). Fits d.1) rest
    → All (λ (d : ℕ × Datagram). Fits d.1) (cons_option (option_map (λ d. (n, d)) found) rest)
numbered_one n None rest each all = all
numbered_one n (Some d) rest each all = All-cons (λ (x : ℕ × Datagram). Fits x.1) (n, d) rest (each d refl) all

pub numbered_fit : (datagrams : List Datagram) (numbers : List ℕ) → All Fits datagrams → All (λ (d : ℕ × Datagram). Fits d.1) (numbered datagrams numbers)
numbered_fit datagrams [] all = All-nil (λ (d : ℕ × Datagram). Fits d.1)
numbered_fit datagrams (n ∷ numbers) all =
    numbered_one n (datagram_at datagrams n) (numbered datagrams numbers) (λ d e. found_fits datagrams n d all e) (numbered_fit datagrams numbers all)

-- ---- what is sealed of it

abbrev pub OutputFits : Sent → Type 0
OutputFits (Sealed place to octets) = AreOctets octets
OutputFits (Dropped place to f) = Unit {0}

media_out : (s : Sealing) (e : Entry) (place : ℕ) (change : Rewrite) (h : Header) (inner : List ℕ) (block : Ohb) (field : Field) (at : Result ℕ ForwardFault) → HasMasters e → IsRewrite change
    → HasParts h inner block field → OutputFits (sent_media s e place change h inner block field at).0
media_out s e place change h inner block field (Err f) masters may p = tt
media_out s e place change h inner block field (Ok index) masters may p =
    sealed_parts (session_keys e.server Srtp) index (relayed h change) inner (block_after h block change) field (IsSession-session_keys e.server Srtp masters.server)
    (parts_after h inner block field change may p)

control_out : (s : Sealing) (e : Entry) (place : ℕ) (octets : List ℕ) (long spent : Bool) → HasMasters e → AreOctets octets → OutputFits (control_step s e place octets long spent).0
control_out s e place octets true spent masters all = tt
control_out s e place octets false true masters all = tt
control_out s e place octets false false masters all =
    sealed_rtcp_octets (session_keys e.server Srtcp) s.rtcp octets (IsSession-session_keys e.server Srtcp masters.server) all

to_out : (s : Sealing) (e : Entry) (place : ℕ) (change : Rewrite) (packet : Packet) → HasMasters e → IsRewrite change → PacketFits packet → OutputFits (sent_to s e place change packet).0
to_out s e place change (Media from h inner block field) masters may fits =
    media_out s e place change h inner block field (media_index s.streams h inner block field change) masters may fits
to_out s e place change (Control from octets) masters may fits = control_out s e place octets (nat_lt 1500 (length octets + 20)) (nat_le (2 ^ 31) s.rtcp) masters fits

each_out : (entries : List Entry) (place : ℕ) (change : Rewrite) (packet : Packet) (sealing : List Sealing) → All HasMasters entries → IsRewrite change → PacketFits packet
    → All OutputFits (sent_each entries place change packet sealing).0
each_out [] place change packet sealing masters may fits = All-nil OutputFits
each_out (e ∷ entries) place change packet sealing masters may fits =
    let one = sent_to (sealing_of sealing e.serial) e place change packet in
    All-cons OutputFits one.0 (sent_each entries place change packet (with_sealing one.1 sealing)).0
    (to_out (sealing_of sealing e.serial) e place change packet (All-head HasMasters e entries masters) may fits)
    (each_out entries place change packet (with_sealing one.1 sealing) (All-tail HasMasters e entries masters) may fits)

from_out : (number of : ℕ) (set : List Entry) (place : ℕ) (batch : List Packet) (change : Rewrite) (only : Option (List (List ℕ))) (sealing : List Sealing) → All HasMasters set → IsRewrite change
    → All PacketFits batch → All OutputFits (sent_from number of set place batch change only sealing).0
from_out number of set place [] change only sealing masters may fits = All-nil OutputFits
from_out number of set place (packet ∷ batch) change only sealing masters may fits =
    let to : List Entry = recipients number of set only packet in
    let one = sent_each to place change packet sealing in
    let theirs : All HasMasters to = All-filter (λ e. is_owned number of e && not (is_of (source_of packet) e) && is_named only e) HasMasters set masters in
    All-append OutputFits one.0 (sent_from number of set (place + 1) batch change only one.1).0
    (each_out to place change packet sealing theirs may (All-head PacketFits packet batch fits))
    (from_out number of set (place + 1) batch change only one.1 masters may (All-tail PacketFits packet batch fits))

pub step_out : (number of : ℕ) (set : List Entry) (batch : List Packet) (change : Rewrite) (only : Option (List (List ℕ))) (sealing : List Sealing) → All HasMasters set → IsRewrite change
    → All PacketFits batch → All OutputFits (media_step number of set batch change only sealing).0
unfolding media_step
step_out number of set [] change only sealing masters may fits = All-nil OutputFits
step_out number of set (packet ∷ batch) change only sealing masters may fits =
    from_out number of set 0 (packet ∷ batch) change only (filter (λ x. in_set set x.serial) sealing) masters may fits

-- ---- the datagrams of it

unsealed_fits : (change : Rewrite) (packet : Packet) → IsRewrite change → PacketFits packet → UnsealedFits (unsealed_of change packet)
unsealed_fits change (Media from h inner block field) may fits = parts_after h inner block field change may fits
unsealed_fits change (Control from octets) may fits = tt

outputs_fit : (members : List Member) (change : Rewrite) (number : ℕ) (packet : Packet) (datagrams : List Datagram) (outputs : List Sent) → UnsealedFits (unsealed_of change packet)
    → All OutputFits outputs → All Fits datagrams → All Fits (reported_outputs members change number packet datagrams outputs).1
outputs_fit members change number packet datagrams [] before outs all = all
outputs_fit members change number packet datagrams (Sealed place to octets ∷ outputs) before outs all =
    let d : Datagram = record { octets = octets; unsealed = unsealed_of change packet } in
    outputs_fit members change number packet (datagrams ++ d ∷ []) outputs before (All-tail OutputFits (Sealed place to octets) outputs outs)
    (All-push Fits datagrams d all (record { octets = All-head OutputFits (Sealed place to octets) outputs outs; before = before }))
outputs_fit members change number packet datagrams (Dropped place to f ∷ outputs) before outs all =
    outputs_fit members change number packet datagrams outputs before (All-tail OutputFits (Dropped place to f) outputs outs) all

taking_fit : (members : List Member) (change : Rewrite) (outputs : List Sent) (place : ℕ) (datagrams : List Datagram) (number : ℕ) (result : Result Packet InboundFault) → IsRewrite change
    → ResultFits result → All OutputFits outputs → All Fits datagrams → All Fits (reported_taking members change outputs place datagrams number result).1
taking_fit members change outputs place datagrams number (Err f) may fits outs all = all
taking_fit members change outputs place datagrams number (Ok packet) may fits outs all =
    outputs_fit members change number packet datagrams (filter (λ x. batch_place x == place) outputs) (unsealed_fits change packet may fits)
    (All-filter (λ x. batch_place x == place) OutputFits outputs outs) all

-- The datagrams that a forward makes fit.
pub takings_fit : (members : List Member) (change : Rewrite) (outputs : List Sent) (place : ℕ) (datagrams : List Datagram) (takings : List Taking) → IsRewrite change → All TakingFits takings
    → All OutputFits outputs → All Fits datagrams → All Fits (reported_takings members change outputs place datagrams takings).1
takings_fit members change outputs place datagrams [] may fits outs all = all
takings_fit members change outputs place datagrams (t ∷ takings) may fits outs all =
    let one = reported_taking members change outputs place datagrams t.number t.result in
    takings_fit members change outputs (place_behind place t.result) one.1 takings may (All-tail TakingFits t takings fits) outs
    (taking_fit members change outputs place datagrams t.number t.result may (All-head TakingFits t takings fits) outs all)
