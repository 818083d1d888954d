-- What one worker of a distributor sends on, and to whom: each packet of a batch to each entry that the worker owns, but not back
-- to its source, changed and sealed under the entry's server pair (RFC 8723 section 5.2).
use Rattle.std.specs.Prelude.{ℕ, ◌+◌, ◌%◌, ◌^◌, Bool, true, not, ◌==◌, ◌&&◌, nat_lt, nat_le, if◌then◌else◌, List, [], ◌∷◌, ◌++◌, length, filter, find, Option, Some, None, Result, Ok, Err}
use Rattle.std.specs.List.{list_any}
use Rattle.std.specs.Option.{unwrap_or}
use Rattle.std.specs.Str.{bytes_eq}
use Rattle.perc_kdf.specs.Derivation.{session_keys}
use Rattle.perc_kdf.specs.declared.Kind.TheVariants.{Srtp, Srtcp}
use Rattle.perc_rtp.specs.Header.{Header}
use Rattle.perc_ohb.specs.declared.block.Ohb.{Ohb}
use Rattle.perc_ohb.specs.Rewriting.{block_after, Rewrite}
use Rattle.perc_ekt.specs.Field.{Field, spelling}
use Rattle.perc_srtp.specs.Sealed.{sealed_rtcp}
use Rattle.perc_srtp.specs.Streams.{tx_index}
use Rattle.perc_srtp.specs.declared.streams.TxFault.{TxFault}
use Rattle.perc_srtp.specs.declared.streams.TxFault.TheVariants as tx
use Rattle.perc_double.specs.Double.{double, relayed, relayed_length}
use Rattle.perc_keyset.specs.Set.{is_of}
use Rattle.perc_keyset.specs.declared.Entry.{Entry}
use Rattle.perc_outer.specs.Streams.{OuterStream, accepted_of, is_full_for, with_index}
use Rattle.perc_distributor.specs.Inbound.{Packet, Media, Control, in_set}
use Rattle.perc_distributor.specs.declared.fault.ForwardFault.{ForwardFault}
use Rattle.perc_distributor.specs.declared.fault.ForwardFault.TheVariants as fault

-- how many octets a datagram has at most
abbrev pub most_octets : ℕ
most_octets = 1500

-- what a worker keeps of one serial: the indices sealed for each SSRC, and the index of the next RTCP packet
pub record Sealing : Type 0 where
  pub serial : ℕ
  pub streams : List OuterStream
  pub rtcp : ℕ

-- an output: the packet in this place of the batch, for this association, sealed or dropped
pub data Sent : Type 0 where
  Sealed : (place : ℕ) → (to : List ℕ) → (octets : List ℕ) → Sent
  Dropped : (place : ℕ) → (to : List ℕ) → ForwardFault → Sent

abbrev pub nothing_sealed : ℕ → Sealing
nothing_sealed serial = record { serial = serial; streams = []; rtcp = 0 }

abbrev pub sealing_of : List Sealing → ℕ → Sealing
sealing_of sealing serial = unwrap_or (find (λ x. x.serial == serial) sealing) (nothing_sealed serial)

abbrev pub with_sealing : Sealing → List Sealing → List Sealing
with_sealing new sealing = filter (λ x. not (x.serial == new.serial)) sealing ++ new ∷ []

-- ---- whom a packet goes to

abbrev pub source_of : Packet → List ℕ
source_of (Media from h inner block field) = from
source_of (Control from octets) = from

-- The worker with this number, of so many, owns the entry.
abbrev pub is_owned : ℕ → ℕ → Entry → Bool
is_owned number of e = e.serial % of == number

abbrev pub is_named : Option (List (List ℕ)) → Entry → Bool
is_named None e = true
is_named (Some only) e = list_any (bytes_eq e.association) only

abbrev pub recipients : ℕ → ℕ → List Entry → Option (List (List ℕ)) → Packet → List Entry
recipients number of set only packet =
    filter (λ e. is_owned number of e && not (is_of (source_of packet) e) && is_named only e) set

-- ---- one output

-- the index at which a changed media packet is sealed behind these, or why it isn't: a new stream has to have room, and the
-- datagram with its field too
abbrev pub tx_fault : TxFault → ForwardFault
tx_fault tx.Room = fault.Room
tx_fault (tx.NoIndex seq) = fault.NoIndex seq
tx_fault (tx.NonceUsed index) = fault.NonceUsed index

abbrev pub as_forwarded : Result ℕ TxFault → Result ℕ ForwardFault
as_forwarded (Ok index) = Ok index
as_forwarded (Err f) = Err (tx_fault f)

abbrev pub media_index : List OuterStream → Header → List ℕ → Ohb → Field → Rewrite → Result ℕ ForwardFault
media_index streams h inner block field change =
    if is_full_for streams h.ssrc then Err fault.StreamLimit
    else (if nat_lt most_octets (relayed_length h inner block change + length (spelling field)) then Err fault.Room
    else as_forwarded (tx_index (accepted_of streams h.ssrc) (relayed h change).seq))

abbrev pub sent_media : Sealing → Entry → ℕ → Rewrite → Header → List ℕ → Ohb → Field → Result ℕ ForwardFault → Sent × Sealing
sent_media s e place change h inner block field (Err f) = (Dropped place e.association f, s)
sent_media s e place change h inner block field (Ok index) =
    (Sealed place e.association (double (session_keys e.server Srtp) index (relayed h change) inner (block_after h block change) ++ spelling field), record s { streams = with_index h.ssrc index s.streams })

abbrev pub sent_control : Sealing → Entry → ℕ → List ℕ → Sent × Sealing
sent_control s e place octets =
    if nat_lt most_octets (length octets + 20) then (Dropped place e.association fault.Room, s)
    else (if nat_le (2 ^ 31) s.rtcp then (Dropped place e.association fault.RtcpSpent, s)
    else (Sealed place e.association (sealed_rtcp (session_keys e.server Srtcp) s.rtcp octets), record s { rtcp = s.rtcp + 1 }))

-- one packet for one entry, over what is kept of its serial
abbrev pub sent_to : Sealing → Entry → ℕ → Rewrite → Packet → Sent × Sealing
sent_to s e place change (Media from h inner block field) =
    sent_media s e place change h inner block field (media_index s.streams h inner block field change)
sent_to s e place change (Control from octets) = sent_control s e place octets

-- ---- a batch

-- A packet to each of these entries in turn. What was sealed is kept; an output that is dropped keeps nothing of a new SSRC.
abbrev pub sent_each : List Entry → ℕ → Rewrite → Packet → List Sealing → List Sent × List Sealing
sent_each [] place change packet sealing = ([], sealing)
sent_each (e ∷ entries) place change packet sealing =
    let one = sent_to (sealing_of sealing e.serial) e place change packet in
    let more = sent_each entries place change packet (with_sealing one.1 sealing) in
    (one.0 ∷ more.0, more.1)

-- the packets of a batch in turn, from this place on
abbrev pub sent_from : ℕ → ℕ → List Entry → ℕ → List Packet → Rewrite → Option (List (List ℕ)) → List Sealing → List Sent × List Sealing
sent_from number of set place [] change only sealing = ([], sealing)
sent_from number of set place (packet ∷ batch) change only sealing =
    let one = sent_each (recipients number of set only packet) place change packet sealing in
    let more = sent_from number of set (place + 1) batch change only one.1 in
    (one.0 ++ more.0, more.1)

-- What the worker with this number, of so many, makes of a batch with this set, and what it keeps then. It first drops what it keeps
-- of serials that aren't in the set; an empty batch changes nothing.
unfoldable pub media_step : ℕ → ℕ → List Entry → List Packet → Rewrite → Option (List (List ℕ)) → List Sealing → List Sent × List Sealing
media_step number of set [] change only sealing = ([], sealing)
media_step number of set (packet ∷ batch) change only sealing =
    sent_from number of set 0 (packet ∷ batch) change only (filter (λ x. in_set set x.serial) sealing)
