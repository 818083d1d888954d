-- What an endpoint sends: double packets of its media, each followed by the field of its schedule (RFC 8723 section 5.1, RFC 8870
-- sections 4.1 and 4.6), and RTCP packets.
use Rattle.std.specs.Prelude.{◌≡◌, ℕ, ◌+◌, ◌%◌, ◌^◌, ◌<◌, ◌≤◌, ◌⊎◌, ◌==◌, nat_lt, if◌then◌else◌, List, [], ◌∷◌, ◌++◌, length, Option, Some, None, All, not}
use Rattle.std.specs.Option.{unwrap_or}
use Rattle.perc_kdf.specs.Derivation.{KeyAndSalt, session_keys}
use Rattle.perc_kdf.specs.declared.Kind.TheVariants.{Srtp, Srtcp}
use Rattle.perc_window.specs.Index.{nearest}
use Rattle.perc_window.specs.Replay.{greatest}
use Rattle.perc_rtp.specs.Carried.{longest_rtcp}
use Rattle.perc_rtp.specs.Header.{Header, version}
use Rattle.perc_rtp.specs.Fields.{cut}
use Rattle.perc_rtp.specs.Media.{Content, header_of, rest_of, media_fault}
use Rattle.perc_rtp.specs.declared.media.MediaFault.{MediaFault}
use Rattle.perc_double.specs.Double.{double, inner, nothing_kept}
use Rattle.perc_srtp.specs.Sealed.{sealed_rtcp}
use Rattle.perc_keywrap.specs.Wrap.{wrapped}
use Rattle.perc_ekt.specs.Field.{Field, Short, Full, spelling}
use Rattle.perc_ekt.specs.Key.{plain_text}
use Rattle.perc_sender.specs.Schedule.{Sending, Taken, newest, place_under, after_packet, roll_over, with_key}
use Rattle.perc_sender.specs.Schedule as sender
use Rattle.perc_sender.specs.declared.SendPlace.{SendPlace}
use Rattle.perc_octets.specs.Octets.{AreOctets}
use Rattle.perc_receiver.specs.Table.{Secret, Row, Wrap, inner_keys}
use Rattle.perc_outgoing.specs.declared.fault.SendFault.{SendFault}
use Rattle.perc_outgoing.specs.declared.fault.SendFault.TheVariants as fault
use Rattle.perc_outgoing.specs.declared.fault.RtcpSendFault.{RtcpSendFault}
use Rattle.perc_outgoing.specs.declared.fault.RtcpSendFault.TheVariants as rtcp_fault

-- what an endpoint keeps of its sending: the outer master, the secret of the SPI that it sends under, its indices, keys and
-- schedule, the outer indices that were sealed, and the index of its next RTCP packet
pub record Outgoing : Type 0 where
  pub client : KeyAndSalt
  pub secret : Secret
  pub sending : Sending
  pub sealed : List ℕ
  pub rtcp : ℕ

-- an endpoint that sent nothing, with its first key
abbrev pub started : KeyAndSalt → ℕ → ℕ → Secret → List ℕ → Outgoing
started client ssrc first s key =
    record { client = client; secret = s; sending = with_key (sender.started ssrc first) s.spi key; sealed = []; rtcp = 0 }

-- the key that it sends under
abbrev pub sending_key : Outgoing → Taken
sending_key out = unwrap_or (newest out.sending.keys) (record { spi = 0; key = [] })

-- where its next packet stands
abbrev pub next_place : Outgoing → SendPlace
next_place out = place_under out.sending (sending_key out)

abbrev pub sent_header : Outgoing → Content → Header
sent_header out content = header_of content (out.sending.next % 65536) out.sending.ssrc

abbrev pub sent_inner : Outgoing → Content → List ℕ
sent_inner out content =
    inner (inner_keys out.secret (sending_key out).key) out.sending.next (sent_header out content) (rest_of content)

-- the field of a packet at a place, sent under a secret and a key: where it is full, it carries the key, wrapped
abbrev pub field_at : SendPlace → Secret → List ℕ → ℕ → Field
field_at place s key ssrc =
    if place.full then Full (wrapped s.key (plain_text key ssrc (roll_over place.index))) place.spi place.epoch else Short

abbrev pub sent_field : Outgoing → Field
sent_field out = field_at (next_place out) out.secret (sending_key out).key out.sending.ssrc

-- The outer index of the next packet: the nearest to those that were sealed. It rises by one each time, as the inner one does.
abbrev pub outer_index : Outgoing → ℕ
outer_index out = unwrap_or (nearest (greatest out.sealed) (out.sending.next % 65536)) 0

-- the next datagram of this media
unfoldable pub sent_datagram : Outgoing → Content → List ℕ
sent_datagram out content =
    double (session_keys out.client Srtp) (outer_index out) (sent_header out content) (sent_inner out content) nothing_kept
    ++ spelling (sent_field out)

-- the first thing for which media isn't sent: a fault of its own, or no index is left
abbrev pub send_fault : Outgoing → Content → Option SendFault
send_fault out content = at (media_fault content) where
  at : Option MediaFault → Option SendFault
  at (Some f) = Some (fault.Media f)
  at None = if out.sending.next == 2 ^ 48 then Some fault.IndexSpent else None

abbrev pub after_send : Outgoing → Outgoing
after_send out = record out { sending = after_packet out.sending; sealed = outer_index out ∷ out.sealed }

-- ---- keys

-- A key was taken under a secret, and it sends under both from then on.
abbrev pub after_take : Outgoing → Secret → List ℕ → Outgoing
after_take out s key = record out { secret = s; sending = with_key out.sending s.spi key }

-- ---- RTCP

-- the first fault of a packet that is to be sent: it has fewer than 8 octets, another version than 2, or too many
abbrev pub plain_fault : List ℕ → Option RtcpSendFault
plain_fault plain =
    if nat_lt (length plain) 8 then Some rtcp_fault.Short
    else (if not (version plain == 2) then Some rtcp_fault.Version
    else (if nat_lt longest_rtcp (length plain) then Some rtcp_fault.Long else None))

-- the first thing for which it isn't sent: a fault of its own, or no index is left
abbrev pub rtcp_send_fault : Outgoing → List ℕ → Option RtcpSendFault
rtcp_send_fault out plain = at (plain_fault plain) where
  at : Option RtcpSendFault → Option RtcpSendFault
  at (Some f) = Some f
  at None = if out.rtcp == 2 ^ 31 then Some rtcp_fault.Spent else None

abbrev pub sent_rtcp : Outgoing → List ℕ → List ℕ
sent_rtcp out plain = sealed_rtcp (session_keys out.client Srtcp) out.rtcp plain

abbrev pub after_rtcp : Outgoing → Outgoing
after_rtcp out = record out { rtcp = out.rtcp + 1 }

-- ---- what a send adds to a table of what was sent

abbrev pub sent_row : List ℕ → ℕ → Outgoing → Content → Row
sent_row sender datagram out content = record {
  sender = sender;
  datagram = datagram;
  spi = (sending_key out).spi;
  ssrc = out.sending.ssrc;
  key = (sending_key out).key;
  index = out.sending.next;
  header = cut (sent_header out content);
  payload = content.payload;
  padding = content.pad;
  inner = sent_inner out content;
}

abbrev pub sent_wrap : Outgoing → Wrap
sent_wrap out = record {
  spi = (sending_key out).spi;
  ssrc = out.sending.ssrc;
  key = (sending_key out).key;
  roc = roll_over out.sending.next;
  octets = wrapped out.secret.key (plain_text (sending_key out).key out.sending.ssrc (roll_over out.sending.next));
}

abbrev pub sent_wraps : Outgoing → List Wrap
sent_wraps out = if (next_place out).full then sent_wrap out ∷ [] else []

-- The content's numbers fit their bits, and its octets are octets, as they do in any piece of media.
pub record IsContent (c : Content) : Type 0 where
  pub timestamp : c.timestamp < 2 ^ 32
  pub csrcs : All (λ x. x < 2 ^ 32) c.csrcs
  pub payload : AreOctets c.payload
  pub pad : c.pad < 256

-- ---- what is always so

-- The greatest outer index runs beside the inner ones: the next has the SEQ of the next inner index.
pub record RunsBeside (sealed : List ℕ) (next high : ℕ) : Type 0 where
  pub highest : greatest sealed ≡ Some high
  pub beside : (high + 1) % 65536 ≡ next % 65536
  pub behind : high < next

-- It has a key under the SPI of its secret, as long as the secret's; the outer indices run beside the inner ones; and the
-- indices are in range.
pub record IsSending (out : Outgoing) : Type 0 where
  pub ssrc : out.sending.ssrc < 2 ^ 32
  pub key : newest out.sending.keys ≡ Some (sending_key out)
  pub spi : (sending_key out).spi ≡ out.secret.spi
  pub size : length (sending_key out).key ≡ length out.secret.key
  pub octets : AreOctets (sending_key out).key
  pub next : out.sending.next ≤ 2 ^ 48
  pub outer : (out.sealed ≡ []) ⊎ ((high : ℕ) × RunsBeside out.sealed out.sending.next high)
  pub rtcp : out.rtcp ≤ 2 ^ 31
