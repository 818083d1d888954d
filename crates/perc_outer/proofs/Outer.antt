-- What becomes of a datagram, case by case.
use Rattle.std.proofs.Common.{◌≡◌, ℕ, ◌<◌, Bool, true, false, not, leb, if◌then◌else◌, List, [], ◌∷◌, ◌++◌, length, get_or, Option, is_some, Result, Ok, Err, refl, sym, ap, subst, ◌∙◌, arith}
use Rattle.std.specs.Prelude.{◌&&◌}
use Rattle.std.specs.List.{list_any}
use Rattle.std.specs.Option.{option_map_or}
use Rattle.std.proofs.lemmas.Bool.Decides.{nat_tests}
use Rattle.perc_kdf.specs.Derivation.{IsSession, KeyAndSalt}
use Rattle.perc_window.specs.Replay.{has}
use Rattle.perc_rtp.specs.Header.{Header, IsHeader, IsPacket, spelling as header_spelling}
use Rattle.perc_rtp.specs.Reading.{packet_of}
use Rattle.perc_rtp.specs.declared.head.RtpFault.{RtpFault}
use Rattle.perc_rtp.proofs.PacketLaws.{packet_read, read_packet}
use Rattle.perc_srtp.specs.Sealed.{sealed_body}
use Rattle.perc_srtp.specs.Streams.{rx_index, rx_opened, opening_index}
use Rattle.perc_srtp.specs.declared.streams.RxFault.{RxFault}
use Rattle.perc_srtp.proofs.PacketLaws.{rx_once}
use Rattle.perc_srtp.proofs.Streaming.{rx_opens_as_sealed, rx_sealed_opens}
use Rattle.perc_ohb.specs.declared.block.Ohb.{Ohb}
use Rattle.perc_ohb.specs.declared.block.OhbFault.{OhbFault}
use Rattle.perc_ohb.specs.Block.{spelling}
use Rattle.perc_ohb.specs.Reading.{block_of}
use Rattle.perc_ohb.proofs.ReadingLaws.{block_read, read_block}
use Rattle.perc_ekt.specs.Field.{Field, IsDatagram, field_of, spelling as field_spelling}
use Rattle.perc_ekt.specs.declared.field.FieldFault.{FieldFault}
use Rattle.perc_ekt.proofs.Fields.{field_of_ok}
use Rattle.perc_outer.specs.declared.fault.OuterFault.{OuterFault}
use Rattle.perc_outer.specs.declared.fault.OuterFault.TheVariants.{OwnStream, Rtp, StreamLimit}
use Rattle.perc_outer.specs.Streams.{OuterStream, accepted_of, is_full_for, is_of, with_index}
use Rattle.perc_outer.specs.Datagram.{Blocked, Opened, Reach, Reached, Refused, field_refusal, is_own, opened_packet, packet_refusal, reached, reached_behind, reached_datagram, reached_opened, reached_packet}
use Rattle.perc_outer.specs.declared.reaching.Reached.{Reached as Told}
use Rattle.perc_outer.specs.Kept.{IsReach, IsTold}
use Rattle.perc_outer.specs.Reaching.{IsReached}
use Rattle.perc_outer.proofs.Datagrams.{datagram_read}
use Rattle.perc_outer.proofs.Finding.{any_found, find_past_with, find_with}
use Rattle.perc_outer.proofs.Octets.{below_all, below_back, below_front, sealed_of_octets}
use Rattle.perc_outer.proofs.Standing.{opened_by, refusing}

-- ---- refusals

pub reached_no_field : (keys : KeyAndSalt) (own : Option ℕ) (streams : List OuterStream) (datagram : List ℕ) (fault : FieldFault)
    → field_of datagram ≡ Err fault → reached keys own streams datagram ≡ Refused (field_refusal fault)
unfolding reached
reached_no_field keys own streams datagram fault is = rw is refl

pub reached_no_packet : (keys : KeyAndSalt) (own : Option ℕ) (streams : List OuterStream) (datagram packet : List ℕ) (field : Field) (fault : RtpFault)
    → field_of datagram ≡ Ok (packet, field) → packet_of packet ≡ Err fault → reached keys own streams datagram ≡ Refused (Rtp fault)
unfolding reached
reached_no_packet keys own streams datagram packet field fault is none = rw is (rw none refl)

-- the packet and the field that a datagram is
pub record IsRead (datagram packet : List ℕ) (field : Field) (h : Header) (rest : List ℕ) : Type 0 where
  pub is_datagram : IsDatagram packet field datagram
  pub is_packet : IsPacket h rest packet

pub reached_own : (keys : KeyAndSalt) (own : Option ℕ) (streams : List OuterStream) (datagram packet : List ℕ) (field : Field) (h : Header) (rest : List ℕ)
    → IsRead datagram packet field h rest → is_own own h.ssrc ≡ true → reached keys own streams datagram ≡ Refused OwnStream
unfolding reached
reached_own keys own streams datagram packet field h rest read is =
    rw (datagram_read packet field datagram read.is_datagram) (rw (packet_read h rest packet read.is_packet) (rw is refl))

-- Where it is a packet of another and a field, what the packet opens to decides.
pub reached_by_packet : (keys : KeyAndSalt) (own : Option ℕ) (streams : List OuterStream) (datagram packet : List ℕ) (field : Field) (h : Header) (rest : List ℕ)
    → IsRead datagram packet field h rest → is_own own h.ssrc ≡ false
    → reached keys own streams datagram ≡ reached_opened h field (opened_packet keys streams h rest)
unfolding reached
reached_by_packet keys own streams datagram packet field h rest read is =
    rw (datagram_read packet field datagram read.is_datagram) (rw (packet_read h rest packet read.is_packet) (rw is refl))

pub reached_shut : (keys : KeyAndSalt) (own : Option ℕ) (streams : List OuterStream) (datagram packet : List ℕ) (field : Field) (h : Header) (rest : List ℕ) (fault : OuterFault)
    → IsRead datagram packet field h rest → is_own own h.ssrc ≡ false → opened_packet keys streams h rest ≡ Err fault → reached keys own streams datagram ≡ Refused fault
reached_shut keys own streams datagram packet field h rest fault read other shut =
    reached_by_packet keys own streams datagram packet field h rest read other ∙ ap (reached_opened h field) shut

pub reached_blocked : (keys : KeyAndSalt) (own : Option ℕ) (streams : List OuterStream) (datagram packet : List ℕ) (field : Field) (h : Header) (rest : List ℕ) (index : ℕ)
    (body : List ℕ) (fault : OhbFault) → IsRead datagram packet field h rest → is_own own h.ssrc ≡ false → opened_packet keys streams h rest ≡ Ok (index, body)
    → block_of body ≡ Err fault → reached keys own streams datagram ≡ Blocked h.ssrc index fault
reached_blocked keys own streams datagram packet field h rest index body fault read other opens none =
    reached_by_packet keys own streams datagram packet field h rest read other ∙ ap (reached_opened h field) opens ∙ ap (reached_behind h field index) none

pub reached_whole : (keys : KeyAndSalt) (own : Option ℕ) (streams : List OuterStream) (datagram packet : List ℕ) (field : Field) (h : Header) (rest : List ℕ) (index : ℕ)
    (body inner : List ℕ) (block : Ohb) → IsRead datagram packet field h rest → is_own own h.ssrc ≡ false → opened_packet keys streams h rest ≡ Ok (index, body)
    → block_of body ≡ Ok (inner, block)
    → reached keys own streams datagram ≡ Reached (record { header = h; inner = inner; block = block; field = field; index = index })
reached_whole keys own streams datagram packet field h rest index body inner block read other opens ends =
    reached_by_packet keys own streams datagram packet field h rest read other ∙ ap (reached_opened h field) opens ∙ ap (reached_behind h field index) ends

-- ---- the streams

-- An SSRC has one index more, and others have those they had.
pub accepted_with : (ssrc index : ℕ) (streams : List OuterStream) → accepted_of (with_index ssrc index streams) ssrc ≡ index ∷ accepted_of streams ssrc
accepted_with ssrc index streams = ap (λ (found : Option OuterStream). option_map_or (λ s. s.accepted) found []) (find_with ssrc index streams)

pub accepted_past : (ssrc other index : ℕ) (streams : List OuterStream) → (ssrc ≡ other → ⊥) → accepted_of (with_index ssrc index streams) other ≡ accepted_of streams other
accepted_past ssrc other index streams apart = ap (λ (found : Option OuterStream). option_map_or (λ s. s.accepted) found []) (find_past_with ssrc other index streams apart)

-- Its stream is there then, and another is where it was.
pub any_with : (ssrc index : ℕ) (streams : List OuterStream) → list_any (is_of ssrc) (with_index ssrc index streams) ≡ true
any_with ssrc index streams = any_found ssrc (with_index ssrc index streams) ∙ ap (λ (found : Option OuterStream). is_some found) (find_with ssrc index streams)

pub any_past : (ssrc other index : ℕ) (streams : List OuterStream) → (ssrc ≡ other → ⊥) → list_any (is_of other) (with_index ssrc index streams) ≡ list_any (is_of other) streams
any_past ssrc other index streams apart =
    any_found other (with_index ssrc index streams) ∙ ap (λ (found : Option OuterStream). is_some found) (find_past_with ssrc other index streams apart) ∙ sym (any_found other streams)

full_held : (held : Bool) (n : ℕ) → held ≡ true → (not held && leb 256 n) ≡ false
full_held held n is = grind (arith, nat_tests)

-- So there is room for it.
pub room_with : (ssrc index : ℕ) (streams : List OuterStream) → is_full_for (with_index ssrc index streams) ssrc ≡ false
room_with ssrc index streams = full_held (list_any (is_of ssrc) (with_index ssrc index streams)) (length (with_index ssrc index streams)) (any_with ssrc index streams)

-- ---- packets that open

-- A packet opens at the index to which its sequence number leads, where it was sealed there and there is room for its stream.
pub record OpensAs (keys : KeyAndSalt) (streams : List OuterStream) (h : Header) (rest : List ℕ) (index : ℕ) (body : List ℕ) : Type 0 where
  pub room : is_full_for streams h.ssrc ≡ false
  pub index_is : rx_index (accepted_of streams h.ssrc) h.seq ≡ Ok index
  pub sealed : rest ≡ sealed_body keys index h body

pub sealed_opened : (keys : KeyAndSalt) (streams : List OuterStream) (h : Header) (rest : List ℕ) (index : ℕ) (body : List ℕ) → OpensAs keys streams h rest index body
    → opened_packet keys streams h rest ≡ Ok (index, body)
sealed_opened keys streams h rest index body o =
    opened_by keys streams h rest o.room ∙ ap refusing (rx_sealed_opens keys (accepted_of streams h.ssrc) h rest index body o.index_is o.sealed)

refusing_ok : (opened : Result (ℕ × List ℕ) RxFault) (index : ℕ) (body : List ℕ) → refusing opened ≡ Ok (index, body) → opened ≡ Ok (index, body)
refusing_ok (Ok o) index body is =
    let wanted : ℕ × List ℕ = (index, body) in
    let same : o ≡ wanted = cc in
    ap Ok same
refusing_ok (Err fault) index body is = absurd (cc)

shut_full : (keys : KeyAndSalt) (streams : List OuterStream) (h : Header) (rest : List ℕ) (index : ℕ) (body : List ℕ) (place : Result ℕ RxFault)
    → opening_index (accepted_of streams h.ssrc) h.seq (length rest) ≡ place → is_full_for streams h.ssrc ≡ true → opened_packet keys streams h rest ≡ Ok (index, body) → ⊥
unfolding opened_packet
shut_full keys streams h rest index body (Err fault) place full opens =
    let shut : opened_packet keys streams h rest ≡ Err (packet_refusal fault) = rw place refl in
    cc
shut_full keys streams h rest index body (Ok at) place full opens =
    let shut : opened_packet keys streams h rest ≡ Err StreamLimit = rw place (rw full refl) in
    cc

opened_room : (keys : KeyAndSalt) (streams : List OuterStream) (h : Header) (rest : List ℕ) (index : ℕ) (body : List ℕ) (full : Bool) → is_full_for streams h.ssrc ≡ full
    → opened_packet keys streams h rest ≡ Ok (index, body) → OpensAs keys streams h rest index body
opened_room keys streams h rest index body true is opens =
    absurd (shut_full keys streams h rest index body (opening_index (accepted_of streams h.ssrc) h.seq (length rest)) refl is opens)
opened_room keys streams h rest index body false is opens =
    let rx = refusing_ok (rx_opened keys (accepted_of streams h.ssrc) h rest) index body (sym (opened_by keys streams h rest is) ∙ opens) in
    let was = rx_opens_as_sealed keys (accepted_of streams h.ssrc) h rest index body rx in
    record { room = is; index_is = was.0; sealed = was.1 }

pub opened_as_sealed : (keys : KeyAndSalt) (streams : List OuterStream) (h : Header) (rest : List ℕ) (index : ℕ) (body : List ℕ)
    → opened_packet keys streams h rest ≡ Ok (index, body) → OpensAs keys streams h rest index body
opened_as_sealed keys streams h rest index body opens = opened_room keys streams h rest index body (is_full_for streams h.ssrc) refl opens

-- ---- datagrams that are reached

pub reaches : (keys : KeyAndSalt) (own : Option ℕ) (streams : List OuterStream) (datagram : List ℕ) (o : Opened) → IsReached keys own streams datagram o
    → reached keys own streams datagram ≡ Reached o
reaches keys own streams datagram o is =
    let body : List ℕ = o.inner ++ spelling o.block in
    let opens = sealed_opened keys streams o.header is.rest o.index body (record { room = is.room; index_is = is.index_is; sealed = is.sealed }) in
    reached_whole keys own streams datagram is.packet o.field o.header is.rest o.index body o.inner o.block (record { is_datagram = is.is_datagram; is_packet = is.is_packet })
    is.other opens (block_read o.block o.inner body (record { block = is.block; split = refl }))

-- what was found where a datagram is reached
record Found (keys : KeyAndSalt) (own : Option ℕ) (streams : List OuterStream) (datagram : List ℕ) (o : Opened) : Type 0 where
  packet : List ℕ
  rest : List ℕ
  body : List ℕ
  field_is : field_of datagram ≡ Ok (packet, o.field)
  packet_is : packet_of packet ≡ Ok (o.header, rest)
  other : is_own own o.header.ssrc ≡ false
  opens : opened_packet keys streams o.header rest ≡ Ok (o.index, body)
  ends : block_of body ≡ Ok (o.inner, o.block)

same_reach : (a b : Opened) → Reached a ≡ Reached b → a ≡ b
same_reach a b is = cc

module _ (keys : KeyAndSalt) (own : Option ℕ) (streams : List OuterStream) (datagram : List ℕ) (o : Opened) where
  from_block : (packet rest body : List ℕ) (h : Header) (field : Field) (index : ℕ) (block : Result (List ℕ × Ohb) OhbFault) → field_of datagram ≡ Ok (packet, field)
      → packet_of packet ≡ Ok (h, rest) → is_own own h.ssrc ≡ false → opened_packet keys streams h rest ≡ Ok (index, body) → block_of body ≡ block
      → reached_behind h field index block ≡ Reached o → Found keys own streams datagram o
  from_block packet rest body h field index (Err fault) field_is packet_is other opens ends is = absurd (cc)
  from_block packet rest body h field index (Ok parts) field_is packet_is other opens ends is =
      subst (Found keys own streams datagram) (same_reach (record { header = h; inner = parts.0; block = parts.1; field = field; index = index }) o is)
      (record { packet = packet; rest = rest; body = body; field_is = field_is; packet_is = packet_is; other = other; opens = opens; ends = ends })

  from_opened : (packet rest : List ℕ) (h : Header) (field : Field) (opened : Result (ℕ × List ℕ) OuterFault) → field_of datagram ≡ Ok (packet, field)
      → packet_of packet ≡ Ok (h, rest) → is_own own h.ssrc ≡ false → opened_packet keys streams h rest ≡ opened → reached_opened h field opened ≡ Reached o
      → Found keys own streams datagram o
  from_opened packet rest h field (Err fault) field_is packet_is other opens is = absurd (cc)
  from_opened packet rest h field (Ok found) field_is packet_is other opens is =
      from_block packet rest found.1 h field found.0 (block_of found.1) field_is packet_is other opens refl is

  from_own : (packet rest : List ℕ) (h : Header) (field : Field) (mine : Bool) → field_of datagram ≡ Ok (packet, field) → packet_of packet ≡ Ok (h, rest)
      → is_own own h.ssrc ≡ mine → (if mine then Refused OwnStream else reached_opened h field (opened_packet keys streams h rest)) ≡ Reached o
      → Found keys own streams datagram o
  from_own packet rest h field true field_is packet_is other is = absurd (cc)
  from_own packet rest h field false field_is packet_is other is =
      from_opened packet rest h field (opened_packet keys streams h rest) field_is packet_is other refl is

  from_packet : (packet : List ℕ) (field : Field) (read : Result (Header × List ℕ) RtpFault) → field_of datagram ≡ Ok (packet, field) → packet_of packet ≡ read
      → reached_packet keys own streams field read ≡ Reached o → Found keys own streams datagram o
  from_packet packet field (Err fault) field_is packet_is is = absurd (cc)
  from_packet packet field (Ok read) field_is packet_is is = from_own packet read.1 read.0 field (is_own own read.0.ssrc) field_is packet_is refl is

  from_field : (parts : Result (List ℕ × Field) FieldFault) → field_of datagram ≡ parts → reached_datagram keys own streams parts ≡ Reached o → Found keys own streams datagram o
  from_field (Err fault) field_is is = absurd (cc)
  from_field (Ok parts) field_is is = from_packet parts.0 parts.1 (packet_of parts.0) field_is refl is

  found : reached keys own streams datagram ≡ Reached o → Found keys own streams datagram o
  unfolding reached
  found is = from_field (field_of datagram) refl is

-- A datagram that is reached was sealed as this, where it and the keys are of octets.
pub is_reached : (keys : KeyAndSalt) (own : Option ℕ) (streams : List OuterStream) (datagram : List ℕ) (o : Opened) → IsSession keys → ((k : ℕ) → get_or datagram k 0 < 256)
    → reached keys own streams datagram ≡ Reached o → IsReached keys own streams datagram o
is_reached keys own streams datagram o session octets is =
    let f = found keys own streams datagram o is in
    let is_datagram = (field_of_ok f.packet o.field datagram octets).0 f.field_is in
    let packet_octets = below_front f.packet (field_spelling o.field) datagram is_datagram.octets octets in
    let is_packet = read_packet o.header f.rest f.packet (below_all f.packet packet_octets) f.packet_is in
    let rest_octets = below_back (header_spelling o.header) f.rest f.packet is_packet.octets packet_octets in
    let opens = opened_as_sealed keys streams o.header f.rest o.index f.body f.opens in
    let body_octets = sealed_of_octets keys o.index o.header f.rest f.body session opens.sealed rest_octets in
    let ends = read_block o.block o.inner f.body (below_all f.body body_octets) f.ends in
    record {
      packet = f.packet;
      rest = f.rest;
      is_datagram = is_datagram;
      is_packet = is_packet;
      other = f.other;
      room = opens.room;
      index_is = opens.index_is;
      sealed = opens.sealed ∙ ap (sealed_body keys o.index o.header) ends.split;
      block = ends.block;
    }

-- The index of a datagram that is reached is none of those accepted before.
pub reached_once : (keys : KeyAndSalt) (own : Option ℕ) (streams : List OuterStream) (datagram : List ℕ) (o : Opened) → reached keys own streams datagram ≡ Reached o
    → has (accepted_of streams o.header.ssrc) o.index ≡ false
reached_once keys own streams datagram o is =
    let f = found keys own streams datagram o is in
    rx_once (accepted_of streams o.header.ssrc) o.header.seq o.index (opened_as_sealed keys streams o.header f.rest o.index f.body f.opens).index_is

-- The header is one, where the datagram's octets are octets.
pub reached_header : (keys : KeyAndSalt) (own : Option ℕ) (streams : List OuterStream) (datagram : List ℕ) (o : Opened) → ((k : ℕ) → get_or datagram k 0 < 256)
    → reached keys own streams datagram ≡ Reached o → IsHeader o.header
reached_header keys own streams datagram o octets is =
    let f = found keys own streams datagram o is in
    let is_datagram = (field_of_ok f.packet o.field datagram octets).0 f.field_is in
    let packet_octets = below_front f.packet (field_spelling o.field) datagram is_datagram.octets octets in
    (read_packet o.header f.rest f.packet (below_all f.packet packet_octets) f.packet_is).header

-- ---- for callers

same_told : (a b : Told) → ◌≡◌ {A = Result Told OuterFault} (Ok a) (Ok b) → a ≡ b
same_told a b is = cc

-- What was told is of a datagram that is reached.
pub told_reached : (reach : Reach) (told : Told) (octets : List ℕ) → IsReach reach (Ok told) octets → (o : Opened) × (reach ≡ Reached o) × IsTold told o octets
told_reached (Refused fault) told octets is = absurd (cc)
told_reached (Blocked ssrc index fault) told octets is = absurd (cc)
told_reached (Reached o) told octets is = (o, refl, subst (λ (t : Told). IsTold t o octets) (sym (same_told told is.0 is.1)) is.2)
