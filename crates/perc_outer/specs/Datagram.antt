-- What a datagram holds for who receives it hop by hop, and the first thing for which it is refused (RFC 8723 section 5.3,
-- RFC 8870 section 4.3). A datagram is a double packet followed by an EKT field; behind the header of an opened packet stand
-- the inner octets and the block of originals.
use Rattle.std.specs.Prelude.{ℕ, Bool, false, ◌==◌, if◌then◌else◌, List, length, Option, Some, None, Result, Ok, Err}
use Rattle.std.specs.Option.{option_map_or}
use Rattle.perc_kdf.specs.Derivation.{KeyAndSalt}
use Rattle.perc_rtp.specs.Header.{Header}
use Rattle.perc_rtp.specs.Reading.{packet_of}
use Rattle.perc_rtp.specs.declared.head.RtpFault.{RtpFault}
use Rattle.perc_ohb.specs.Reading.{block_of}
use Rattle.perc_ohb.specs.Rewriting.{restored}
use Rattle.perc_ohb.specs.declared.block.Ohb.{Ohb}
use Rattle.perc_ohb.specs.declared.block.OhbFault.{OhbFault}
use Rattle.perc_ekt.specs.Field.{Field, field_of}
use Rattle.perc_ekt.specs.declared.field.FieldFault.{FieldFault}
use Rattle.perc_ekt.specs.declared.field.FieldFault.TheVariants as ekt
use Rattle.perc_srtp.specs.Streams.{opening_index}
use Rattle.perc_srtp.specs.Sealed.{unsealed_body}
use Rattle.perc_srtp.specs.declared.streams.RxFault.{RxFault}
use Rattle.perc_srtp.specs.declared.streams.RxFault.TheVariants as rx
use Rattle.perc_outer.specs.declared.fault.OuterFault.{OuterFault}
use Rattle.perc_outer.specs.declared.fault.OuterFault.TheVariants.{NoField, EktType, EktLength, Rtp, OwnStream, OuterShort, OuterOld, OuterRepeated, StreamLimit, OuterTag}
use Rattle.perc_outer.specs.Streams.{OuterStream, accepted_of, is_full_for, with_index}

-- an opened datagram: its header as it came, the inner octets, the block, the field, and its outer index
pub record Opened : Type 0 where
  pub header : Header
  pub inner : List ℕ
  pub block : Ohb
  pub field : Field
  pub index : ℕ

-- What becomes of a datagram: it is refused before anything is accepted; it opens at an outer index, but doesn't end in a block;
-- or it is reached. In the last two the outer index is accepted.
pub data Reach : Type 0 where
  Refused : OuterFault → Reach
  Blocked : (ssrc index : ℕ) → OhbFault → Reach
  Reached : Opened → Reach

abbrev pub field_refusal : FieldFault → OuterFault
field_refusal ekt.NoField = NoField
field_refusal ekt.Type01 = EktType
field_refusal ekt.Length = EktLength

abbrev pub packet_refusal : RxFault → OuterFault
packet_refusal rx.Short = OuterShort
packet_refusal rx.TooOld = OuterOld
packet_refusal rx.Repeated = OuterRepeated
packet_refusal rx.Tag = OuterTag

-- It is the SSRC of who receives. A distributor has none.
abbrev pub is_own : Option ℕ → ℕ → Bool
is_own own ssrc = option_map_or (λ s. s == ssrc) own false

-- The outer index and what stands behind the header of the opened packet, or why it isn't opened: too short for a tag, no fresh
-- index, no room for its stream, or the tag.
unfoldable pub opened_packet : KeyAndSalt → List OuterStream → Header → List ℕ → Result (ℕ × List ℕ) OuterFault
opened_packet keys streams h rest = at (opening_index (accepted_of streams h.ssrc) h.seq (length rest)) where
  with_body : ℕ → Option (List ℕ) → Result (ℕ × List ℕ) OuterFault
  with_body index None = Err OuterTag
  with_body index (Some body) = Ok (index, body)

  at : Result ℕ RxFault → Result (ℕ × List ℕ) OuterFault
  at (Err fault) = Err (packet_refusal fault)
  at (Ok index) =
      if is_full_for streams h.ssrc then Err StreamLimit else with_body index (unsealed_body keys index h rest)

-- what stands behind the header of an opened packet
abbrev pub reached_behind : Header → Field → ℕ → Result (List ℕ × Ohb) OhbFault → Reach
reached_behind h field index (Err fault) = Blocked h.ssrc index fault
reached_behind h field index (Ok parts) =
    Reached (record { header = h; inner = parts.0; block = parts.1; field = field; index = index })

abbrev pub reached_opened : Header → Field → Result (ℕ × List ℕ) OuterFault → Reach
reached_opened h field (Err fault) = Refused fault
reached_opened h field (Ok opened) = reached_behind h field opened.0 (block_of opened.1)

abbrev pub reached_packet : KeyAndSalt → Option ℕ → List OuterStream → Field → Result (Header × List ℕ) RtpFault → Reach
reached_packet keys own streams field (Err fault) = Refused (Rtp fault)
reached_packet keys own streams field (Ok read) =
    if is_own own read.0.ssrc then Refused OwnStream
    else reached_opened read.0 field (opened_packet keys streams read.0 read.1)

abbrev pub reached_datagram : KeyAndSalt → Option ℕ → List OuterStream → Result (List ℕ × Field) FieldFault → Reach
reached_datagram keys own streams (Err fault) = Refused (field_refusal fault)
reached_datagram keys own streams (Ok parts) = reached_packet keys own streams parts.1 (packet_of parts.0)

-- What becomes of a datagram under these session keys, over these streams, at a receiver that has this SSRC or none.
unfoldable pub reached : KeyAndSalt → Option ℕ → List OuterStream → List ℕ → Reach
reached keys own streams datagram = reached_datagram keys own streams (field_of datagram)

-- the streams behind it
abbrev pub streams_after : List OuterStream → Reach → List OuterStream
streams_after streams (Refused fault) = streams
streams_after streams (Blocked ssrc index fault) = with_index ssrc index streams
streams_after streams (Reached o) = with_index o.header.ssrc o.index streams

-- the sender's header as its inner transform took it
abbrev pub original_header : Opened → Header
original_header o = restored o.header o.block
