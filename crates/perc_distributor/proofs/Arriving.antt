-- What a sealed media packet is reached as, and what a media packet is at the end of its way.
use Rattle.std.proofs.Common.{◌≡◌, ℕ, ◌+◌, ◌<◌, Bool, true, false, cond, List, length, Option, Some, None, Result, Ok, Err, refl, sym, ap, subst, ◌∙◌, arith}
use Rattle.std.specs.Prelude.{◌^◌, nat_lt}
use Rattle.perc_kdf.specs.Derivation.{IsMaster, IsSession, KeyAndSalt, session_keys}
use Rattle.perc_kdf.specs.declared.Kind.TheVariants.{Srtp, Srtcp}
use Rattle.perc_kdf.proofs.SessionLaws.{IsSession-session_keys}
use Rattle.perc_rtp.specs.Header.{Header}
use Rattle.perc_rtp.specs.Carried.{kind_of}
use Rattle.perc_ohb.specs.declared.block.Ohb.{Ohb}
use Rattle.perc_ohb.specs.Block.{EndsIn}
use Rattle.perc_ohb.specs.Reading.{block_of}
use Rattle.perc_ohb.specs.Rewriting.{IsRewrite, block_after, restored, Rewrite}
use Rattle.perc_ohb.proofs.ReadingLaws.{block_read}
use Rattle.perc_ohb.proofs.RewritingLaws.{IsOhb-after}
use Rattle.perc_ekt.specs.Field.{Field, spelling}
use Rattle.perc_srtp.specs.Sealed.{sealed_body}
use Rattle.perc_srtp.specs.Streams.{rtcp_opened, tx_index}
use Rattle.perc_srtp.specs.declared.streams.TxFault.{TxFault}
use Rattle.perc_srtp.specs.declared.rtcp.RtcpFault.{RtcpFault}
use Rattle.perc_srtp.proofs.PacketLaws.{body_index, rx_is_nearest, tx_is_nearest}
use Rattle.perc_double.specs.Double.{double, nothing_kept, opened, relayed, relayed_length}
use Rattle.perc_double.proofs.RelayLaws.{IsHeader-relayed, restored_relayed}
use Rattle.perc_keyset.specs.Set.{entry_of}
use Rattle.perc_keyset.specs.declared.Entry.{Entry}
use Rattle.perc_outer.specs.declared.fault.OuterFault.{OuterFault}
use Rattle.perc_outer.specs.Streams.{OuterStream, accepted_of, is_full_for}
use Rattle.perc_outer.specs.Datagram.{Blocked, Opened, Reach, Reached, Refused, is_own, opened_packet, original_header, reached, reached_behind, reached_opened}
use Rattle.perc_outer.proofs.Outer.{IsRead, opened_as_sealed, reached_by_packet, reached_own}
use Rattle.perc_distributor.specs.declared.fault.ForwardFault.{ForwardFault}
use Rattle.perc_distributor.specs.declared.fault.ForwardFault.TheVariants as fault
use Rattle.perc_distributor.specs.declared.fault.InboundFault.{InboundFault}
use Rattle.perc_distributor.specs.Inbound.{Heard, Media, Packet, heard_of, taken}
use Rattle.perc_distributor.specs.Forwarding.{Sealed, Sealing, as_forwarded, media_index, sent_media, sent_to}
use Rattle.perc_distributor.specs.Hearing.{control_of, is_control, media_of}
use Rattle.perc_distributor.specs.Laws.{HasArrived, HasSpelling, IsOnItsWay, IsRelayed, IsSent, OpensAsRelayed, datagram_of, opened_after, opened_as, sent_datagram}
use Rattle.perc_distributor.proofs.HearingLaws.{by_kind, taken_as}
use Rattle.perc_distributor.proofs.OnTheWay.{relayed_reached}

-- ---- a sealed packet is reached as nothing else

same_reached : (a b : Opened) → Reached a ≡ Reached b → a ≡ b
same_reached a b is = cc

module _ (keys : KeyAndSalt) (own : Option ℕ) (streams : List OuterStream) (h : Header) (inner : List ℕ) (block : Ohb) (field : Field) (index : ℕ) (session : IsSession keys) (spelled : HasSpelling h block field) (fits : index < 2 ^ 48) where
  abbrev pub body_of : List ℕ
  body_of = sealed_body keys index h (opened inner block)

  by_opened : (found : Result (ℕ × List ℕ) OuterFault) (o : Opened) → opened_packet keys streams h body_of ≡ found → reached_opened h field found ≡ Reached o → o ≡ opened_as index h inner block field
  by_opened (Err f) o opens is = absurd (cc)
  by_opened (Ok found) o opens is =
      let as_sealed = opened_as_sealed keys streams h body_of found.0 found.1 opens in
      let near = rx_is_nearest (accepted_of streams h.ssrc) h.seq found.0 spelled.header_is.seq as_sealed.index_is in
      let same = body_index keys index found.0 h (opened inner block) found.1 session spelled.header_is.ssrc fits near.in_range as_sealed.sealed in
      let ends : EndsIn block inner (opened inner block) = record { block = spelled.block_is; split = refl } in
      let read : block_of found.1 ≡ Ok (inner, block) = ap block_of (sym same.1) ∙ block_read block inner (opened inner block) ends in
      let told : Reached (opened_as found.0 h inner block field) ≡ Reached o = sym (ap (reached_behind h field found.0) read) ∙ is in
      sym (same_reached (opened_as found.0 h inner block field) o told) ∙ ap (λ (i : ℕ). opened_as i h inner block field) (sym same.0)

  read_as : IsRead (datagram_of keys index h inner block field) (double keys index h inner block) field h body_of
  read_as = record {
    is_datagram = record { fits = spelled.field_is; octets = refl };
    is_packet = record { header = spelled.header_is; octets = refl };
  }

  by_own : (b : Bool) (o : Opened) → is_own own h.ssrc ≡ b → reached keys own streams (datagram_of keys index h inner block field) ≡ Reached o → o ≡ opened_as index h inner block field
  by_own true o is_b is =
      let told = sym (reached_own keys own streams (datagram_of keys index h inner block field) (double keys index h inner block) field h body_of read_as is_b) ∙ is in
      absurd (cc)
  by_own false o is_b is =
      by_opened (opened_packet keys streams h body_of) o refl
      (sym (reached_by_packet keys own streams (datagram_of keys index h inner block field) (double keys index h inner block) field h body_of read_as is_b) ∙ is)

  pub reached_is : (o : Opened) → reached keys own streams (datagram_of keys index h inner block field) ≡ Reached o → o ≡ opened_as index h inner block field
  reached_is o is = by_own (is_own own h.ssrc) o refl is

-- ---- what was taken as media

-- what a media packet that was taken is
pub record TakenAs (e : Entry) (streams : List OuterStream) (datagram : List ℕ) (packet : Packet) : Type 0 where
  pub opened : Opened
  pub reached_as : reached (session_keys e.client Srtp) None streams datagram ≡ Reached opened
  pub is : packet ≡ Media e.association opened.header opened.inner opened.block opened.field

same_packet : (a b : Packet) → ◌≡◌ {A = Result Packet InboundFault} (Ok a) (Ok b) → b ≡ a
same_packet a b is = cc

of_reach : (e : Entry) (streams : List OuterStream) (datagram : List ℕ) (packet : Packet) (reach : Reach) → reached (session_keys e.client Srtp) None streams datagram ≡ reach
    → media_of e reach ≡ Ok packet → TakenAs e streams datagram packet
of_reach e streams datagram packet (Refused f) found is = absurd (cc)
of_reach e streams datagram packet (Blocked ssrc index f) found is = absurd (cc)
of_reach e streams datagram packet (Reached o) found is =
    record { opened = o; reached_as = found; is = same_packet (Media e.association o.header o.inner o.block o.field) packet is }

-- a control packet isn't one of media
not_media : (e : Entry) (found : Result (ℕ × List ℕ) RtcpFault) (from : List ℕ) (g : Header) (inner : List ℕ) (block : Ohb) (f : Field) → control_of e found ≡ Ok (Media from g inner block f) → ⊥
not_media e (Ok found) from g inner block f is = absurd (cc)
not_media e (Err fault) from g inner block f is = absurd (cc)

of_kind : (entries : List Entry) (heard : List Heard) (e : Entry) (datagram from : List ℕ) (g : Header) (inner : List ℕ) (block : Ohb) (f : Field) (kind : Option Bool)
    → (by_kind entries heard kind (Some e) datagram).0 ≡ Ok (Media from g inner block f) → TakenAs e (heard_of heard e.serial).streams datagram (Media from g inner block f)
of_kind entries heard e datagram from g inner block f None is = absurd (cc)
of_kind entries heard e datagram from g inner block f (Some true) is =
    absurd (not_media e (rtcp_opened (session_keys e.client Srtcp) (heard_of heard e.serial).rtcp datagram) from g inner block f is)
of_kind entries heard e datagram from g inner block f (Some false) is =
    of_reach e (heard_of heard e.serial).streams datagram (Media from g inner block f) (reached (session_keys e.client Srtp) None (heard_of heard e.serial).streams datagram) refl is

pub taken_media : (entries : List Entry) (heard : List Heard) (e : Entry) (at datagram from : List ℕ) (g : Header) (inner : List ℕ) (block : Ohb) (f : Field) → entry_of entries at ≡ Some e
    → (taken entries heard at datagram).0 ≡ Ok (Media from g inner block f) → TakenAs e (heard_of heard e.serial).streams datagram (Media from g inner block f)
taken_media entries heard e at datagram from g inner block f entry is =
    of_kind entries heard e datagram from g inner block f (is_control (kind_of datagram))
    (sym (ap (λ (t : Result Packet InboundFault × List Heard). t.0)
    (taken_as entries heard at datagram ∙ ap (λ (found : Option Entry). by_kind entries heard (is_control (kind_of datagram)) found datagram) entry))
    ∙ is)

-- ---- what was sent on

-- why or where it is sealed
sealed_with : (s : Sealing) (e : Entry) (place : ℕ) (change : Rewrite) (h : Header) (inner : List ℕ) (block : Ohb) (field : Field) (at : Result ℕ ForwardFault) (q : ℕ) (to octets : List ℕ)
    → (sent_media s e place change h inner block field at).0 ≡ Sealed q to octets → (index : ℕ) × (at ≡ Ok index) × (octets ≡ datagram_of (session_keys e.server Srtp) index (relayed h change) inner (block_after h block change) field)
sealed_with s e place change h inner block field (Ok index) q to octets is = (index, refl, cc)
sealed_with s e place change h inner block field (Err f) q to octets is = absurd (cc)

forwarded_index : (found : Result ℕ TxFault) (index : ℕ) → as_forwarded found ≡ Ok index → found ≡ Ok index
forwarded_index (Ok at) index is = let same : at ≡ index = cc in ap Ok same
forwarded_index (Err f) index is = absurd (cc)

by_room : (full long : Bool) (f g : ForwardFault) (found : Result ℕ ForwardFault) (index : ℕ) → cond full (Err f) (cond long (Err g) found) ≡ Ok index → found ≡ Ok index
by_room true long f g found index is = absurd (cc)
by_room false true f g found index is = absurd (cc)
by_room false false f g found index is = is

-- The index at which a media packet is sealed is that of its stream,
pub media_index_is : (streams : List OuterStream) (h : Header) (inner : List ℕ) (block : Ohb) (field : Field) (change : Rewrite) (index : ℕ) → media_index streams h inner block field change ≡ Ok index
    → tx_index (accepted_of streams h.ssrc) (relayed h change).seq ≡ Ok index
media_index_is streams h inner block field change index is =
    forwarded_index (tx_index (accepted_of streams h.ssrc) (relayed h change).seq) index
    (by_room (is_full_for streams h.ssrc) (nat_lt 1500 (relayed_length h inner block change + length (spelling field))) fault.StreamLimit fault.Room (as_forwarded (tx_index (accepted_of streams h.ssrc) (relayed h change).seq)) index is)

-- and is below 2^48.
pub media_index_below : (streams : List OuterStream) (h : Header) (inner : List ℕ) (block : Ohb) (field : Field) (change : Rewrite) (index : ℕ)
    → media_index streams h inner block field change ≡ Ok index → index < 2 ^ 48
media_index_below streams h inner block field change index is =
    (tx_is_nearest (accepted_of streams h.ssrc) (relayed h change).seq index (omega arith) (media_index_is streams h inner block field change index is)).in_range

pub relayed_as : (s : Sealing) (e : Entry) (place : ℕ) (change : Rewrite) (from : List ℕ) (h : Header) (inner : List ℕ) (block : Ohb) (field : Field) (q : ℕ) (to octets : List ℕ)
    → (sent_to s e place change (Media from h inner block field)).0 ≡ Sealed q to octets → IsRelayed e h inner block field change octets
relayed_as s e place change from h inner block field q to octets is =
    let p = sealed_with s e place change h inner block field (media_index s.streams h inner block field change) q to octets is in
    record { index = p.0; in_range = media_index_below s.streams h inner block field change p.0 p.1; sealed_as = p.2 }

-- ---- what arrives

spelled_after : (h : Header) (block : Ohb) (field : Field) (change : Rewrite) → HasSpelling h block field → IsRewrite change → HasSpelling (relayed h change) (block_after h block change) field
spelled_after h block field change spelled may = record {
  header_is = IsHeader-relayed h change spelled.header_is may;
  block_is = IsOhb-after h block change spelled.header_is spelled.block_is;
  field_is = spelled.field_is;
}

pub opens_as_relayed : (e : Entry) (h : Header) (inner : List ℕ) (block : Ohb) (field : Field) (change : Rewrite) (octets : List ℕ) (r : IsRelayed e h inner block field change octets)
    → IsMaster e.server → HasSpelling h block field → IsRewrite change → OpensAsRelayed e h inner block field change octets r
opens_as_relayed e h inner block field change octets r master spelled may =
    let keys : KeyAndSalt = session_keys e.server Srtp in
    record {
      opens = λ own streams awaits.
          ap (reached keys own streams) r.sealed_as ∙ relayed_reached keys own streams h inner block field change r.index spelled may awaits;
      only = λ own streams o is.
          let same : o ≡ opened_after r.index h inner block field change =
          reached_is keys own streams (relayed h change) inner (block_after h block change) field r.index (IsSession-session_keys e.server Srtp master) (spelled_after h block field change spelled may) r.in_range o
          (sym (ap (reached keys own streams) r.sealed_as) ∙ is) in
          record {
            header_is = ap original_header same ∙ restored_relayed h block change;
            inner_is = ap (λ (x : Opened). x.inner) same;
            field_is = ap (λ (x : Opened). x.field) same;
          };
    }

-- The way from a sender through a distributor to a receiver.
pub arrives : (e d : Entry) (h : Header) (inner : List ℕ) (field : Field) (index : ℕ) (from : List ℕ) (g : Header) (b : List ℕ) (block : Ohb) (f : Field) (o : Opened) → IsSent e h field index
    → IsOnItsWay e d (sent_datagram e index h inner field) (Media from g b block f) o → HasArrived (restored h nothing_kept) inner field o
arrives e d h inner field index from g b block f o sent way =
    let spelled : HasSpelling h nothing_kept field = record { header_is = sent.header_is; block_is = record { pt = tt; seq = tt }; field_is = sent.field_is } in
    let t = taken_media way.set way.heard e way.from (sent_datagram e index h inner field) from g b block f way.entry way.taken_as in
    let was : t.opened ≡ opened_as index h inner nothing_kept field =
    reached_is (session_keys e.client Srtp) None (heard_of way.heard e.serial).streams h inner nothing_kept field index (IsSession-session_keys e.client Srtp sent.client) spelled sent.in_range t.opened t.reached_as in
    let packet : Media from g b block f ≡ Media e.association h inner nothing_kept field = t.is ∙ ap (λ (x : Opened). Media e.association x.header x.inner x.block x.field) was in
    let r : IsRelayed d h inner nothing_kept field way.change way.octets =
    relayed_as way.sealing d way.place way.change e.association h inner nothing_kept field way.place way.to way.octets
    (subst (λ (p : Packet). (sent_to way.sealing d way.place way.change p).0 ≡ Sealed way.place way.to way.octets) packet way.sent_as) in
    (opens_as_relayed d h inner nothing_kept field way.change way.octets r way.server spelled way.may).only way.own way.streams o way.reached_as
