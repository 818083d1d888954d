-- The line `deliver`: a datagram reaches a member, which accepts it or refuses it. Where something in it opens that nobody made, the
-- run ends.
use Rattle.std.specs.Prelude.{ℕ, Bool, ◌&&◌, ◌==◌, if◌then◌else◌, List, [], ◌∷◌, find, Option, Some, None, Result, Ok, Err}
use Rattle.std.specs.Option.{option_map_or}
use Rattle.perc_rtp.specs.Carried.{kind_of}
use Rattle.perc_rtp.specs.declared.carried.Carried.{Carried}
use Rattle.perc_rtp.specs.declared.carried.Carried.TheVariants as carried
use Rattle.perc_srtp.specs.declared.rtcp.RtcpFault.{RtcpFault}
use Rattle.perc_receiver.specs.declared.refusal.Refusal as receiver
use Rattle.perc_receiver.specs.declared.refusal.Refusal.TheVariants as inner
use Rattle.perc_receiver.specs.Table.{Row, Table}
use Rattle.perc_receiver.specs.Receiver.{Accepted, Receiver, ideal, outcome}
use Rattle.perc_receiver.specs.Foreign.{is_foreign}
use Rattle.perc_incoming.specs.Control.{outcome_rtcp}
use Rattle.perc_script_line.specs.declared.reason.Reason.TheVariants as reason
use Rattle.perc_report_line.specs.declared.reasons.Refusal.{Refusal}
use Rattle.perc_report_line.specs.declared.reasons.Refusal.TheVariants as refusal
use Rattle.perc_report_line.specs.Report.{Report, Acceptance, Accept, Refuse, Rtcp}
use Rattle.perc_run.specs.State.{Datagram, State, Member, Turn, Goes, Refused, Halts, at_member, datagram_at, with_member}
use Rattle.perc_run.specs.Forwarding.{control_refusal, outer_refusal}

-- Who judges a datagram at a receiver: what is answered, and the receiver behind it.
abbrev pub Judge : Type 0
Judge = Table → Receiver → List ℕ → Result Accepted receiver.Refusal × Receiver

-- the ciphers
abbrev pub by_cipher : Judge
by_cipher table r datagram = outcome r datagram

-- what was sent, and nothing else behind the outer layer
abbrev pub by_table : Judge
by_table table r datagram = ideal table r datagram

abbrev pub media_refusal : receiver.Refusal → Refusal
media_refusal (inner.Outer f) = outer_refusal f
media_refusal inner.InnerShort = refusal.InnerShort
media_refusal (inner.SpiUnknown spi) = refusal.SpiUnknown spi
media_refusal inner.Unwrap = refusal.Unwrap
media_refusal inner.EktPlain = refusal.EktPlain
media_refusal inner.KeyLimit = refusal.KeyLimit
media_refusal inner.NoContext = refusal.NoContext
media_refusal inner.InnerOld = refusal.InnerOld
media_refusal inner.InnerRepeated = refusal.InnerRepeated
media_refusal inner.InnerTag = refusal.InnerTag
media_refusal inner.Padding = refusal.Padding

-- the row of an accepted packet: SSRC and index tell it
abbrev pub row_at : Table → ℕ → ℕ → Option Row
row_at table ssrc index = find (λ row. row.ssrc == ssrc && row.index == index) table.rows

-- An accepted packet as it is reported: whose datagram it was, and what it says with the originals put back.
abbrev pub acceptance : Table → ℕ → List ℕ → Accepted → Acceptance
acceptance table number name a =
    let row = row_at table a.attempt.context.ssrc a.attempt.index in
    record {
      datagram = number;
      name = name;
      sender = option_map_or (λ x. x.sender) row [];
      sent = option_map_or (λ x. x.datagram) row 0;
      pt = a.header.pt;
      seq = a.header.seq;
      marker = a.header.marker;
      timestamp = a.header.timestamp;
      payload = a.payload;
    }

abbrev pub answer_line : Table → ℕ → List ℕ → Result Accepted receiver.Refusal → Report
answer_line table number name (Ok a) = Accept (acceptance table number name a)
answer_line table number name (Err e) = Refuse number name (media_refusal e)

abbrev pub control_line : ℕ → List ℕ → Result (List ℕ) RtcpFault → Report
control_line number name (Ok plain) = Rtcp number name plain
control_line number name (Err f) = Refuse number name (control_refusal f)

abbrev pub with_receiver : Receiver → Member → Member
with_receiver r m = record m { endpoint = record m.endpoint { receiving = r } }

abbrev pub heard_turn : State → Member → Report → Receiver → Turn
heard_turn s m line r = Goes (line ∷ []) (record s { members = with_member m.name (with_receiver r) s.members })

-- Only RTP is ever foreign.
abbrev pub delivered : Judge → State → ℕ → Member → List ℕ → Carried → Turn
delivered judge s number m octets carried.Dtls = Goes (Refuse number m.name refusal.NotMedia ∷ []) s
delivered judge s number m octets carried.Other = Goes (Refuse number m.name refusal.NotMedia ∷ []) s
delivered judge s number m octets carried.Rtcp =
    let heard = outcome_rtcp m.endpoint.receiving octets in
    heard_turn s m (control_line number m.name heard.0) heard.1
delivered judge s number m octets carried.Rtp =
    if is_foreign s.table m.endpoint.receiving octets then Halts m.name
    else (let heard = judge s.table m.endpoint.receiving octets in
    heard_turn s m (answer_line s.table number m.name heard.0) heard.1)

unfoldable pub deliver_turn : Judge → State → ℕ → List ℕ → Turn
deliver_turn judge s number name =
    at_member s name (λ m. option_map_or (λ d. delivered judge s number m d.octets (kind_of d.octets)) (datagram_at s.datagrams number) (Refused reason.Datagram))
