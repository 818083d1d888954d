-- What the parts of forwarding do: a packet sealed in one stream, in the streams of a serial, and for an entry.
use Rattle.std.specs.Prelude.{◌≡◌, ℕ, ◌+◌, ◌^◌, nat_lt, nat_le, if◌then◌else◌, List, ◌∷◌, ◌++◌, length, take, Result, Ok, Err}
use Rattle.perc_kdf.specs.Derivation.{KeyAndSalt, session_keys}
use Rattle.perc_kdf.specs.declared.Kind.TheVariants.{Srtp, Srtcp}
use Rattle.perc_rtp.specs.Header.{Header}
use Rattle.perc_window.specs.Replay.{Marks, StandsFor as WindowStandsFor}
use Rattle.perc_ohb.specs.declared.block.Ohb.{Ohb}
use Rattle.perc_ohb.specs.Rewriting.{block_after, Rewrite}
use Rattle.perc_ekt.specs.Field.{Field, spelling}
use Rattle.perc_srtp.specs.Ends.{Stream}
use Rattle.perc_srtp.specs.Sealed.{sealed_rtcp}
use Rattle.perc_srtp.specs.Streams.{tx_index}
use Rattle.perc_double.specs.Double.{double, relayed, relayed_length}
use Rattle.perc_double.specs.declared.relaying.RelayFault.{RelayFault}
use Rattle.perc_double.specs.declared.relaying.RelayFault.TheVariants as relay
use Rattle.perc_outer.specs.Streams.{OuterStream, with_index}
use Rattle.perc_outer.specs.Kept as outer
use Rattle.perc_distributor.specs.declared.fault.ForwardFault.{ForwardFault}
use Rattle.perc_distributor.specs.declared.fault.ForwardFault.TheVariants as fault
use Rattle.perc_distributor.specs.declared.plain.Plain.{Plain}
use Rattle.perc_distributor.specs.declared.outputs.Output.{Output}
use Rattle.perc_distributor.specs.Inbound.{Packet}
use Rattle.perc_distributor.specs.Forwarding.{Sealing, Sent, as_forwarded, media_index, most_octets, sent_to}
use Rattle.perc_keyset.specs.declared.Entry.{Entry}
use Rattle.perc_distributor.specs.Kept.{IsControl, IsMedia, IsPlain, IsSealing, Kept, sent_of}

-- What is sealed at a place is answered by its length and stands at the front of `out`, and then this is kept; or the refusal is
-- answered.
abbrev pub IsForwarded : (ℕ → List ℕ) → (ℕ → Type 0) → Result ℕ ForwardFault → Result ℕ ForwardFault → List ℕ → Type 0
IsForwarded datagram Keeps (Err f) result out = result ≡ Err f
IsForwarded datagram Keeps (Ok at) result out = (n : ℕ) × (result ≡ Ok n) × (take n out ≡ datagram at) × Keeps at

-- ---- media

-- what a refusal to relay is here
abbrev pub forward_fault : RelayFault → ForwardFault
forward_fault relay.Room = fault.Room
forward_fault (relay.NoIndex seq) = fault.NoIndex seq
forward_fault (relay.NonceUsed index) = fault.NonceUsed index

-- the datagram that a changed media packet becomes at an index
abbrev pub media_datagram : KeyAndSalt → Header → List ℕ → Ohb → Field → Rewrite → ℕ → List ℕ
media_datagram keys h inner o field change at =
    double keys at (relayed h change) inner (block_after h o change) ++ spelling field

-- its index in a stream where these were sealed, or why it isn't
abbrev pub stream_index : List ℕ → Header → List ℕ → Ohb → Field → Rewrite → Result ℕ ForwardFault
stream_index before h inner o field change =
    if nat_lt most_octets (relayed_length h inner o change + length (spelling field)) then Err fault.Room
    else as_forwarded (tx_index before (relayed h change).seq)

-- It is sealed in a stream.
abbrev pub SealsInStream : Marks → KeyAndSalt → Plain → Rewrite → Result ℕ ForwardFault → List ℕ → Marks → Type 0
SealsInStream window keys plain change result out after =
    (before from : List ℕ) (h : Header) (inner : List ℕ) (o : Ohb) (field : Field) → WindowStandsFor window before → IsMedia plain from h inner o field
    → IsForwarded (media_datagram keys h inner o field change) (λ at. WindowStandsFor after (at ∷ before)) (stream_index before h inner o field change) result out

-- It is sealed in its stream among these.
abbrev pub SealsInStreams : List Stream → KeyAndSalt → Plain → Rewrite → Result ℕ ForwardFault → List ℕ → List Stream → Type 0
SealsInStreams kept keys plain change result out after =
    (before : List OuterStream) (from : List ℕ) (h : Header) (inner : List ℕ) (o : Ohb) (field : Field) → outer.StandsFor kept before → IsMedia plain from h inner o field
    → IsForwarded (media_datagram keys h inner o field change) (λ at. outer.StandsFor after (with_index h.ssrc at before))
    (media_index before h inner o field change) result out

-- ---- control

-- the index of a control packet where this is the next, or why it isn't sealed
abbrev pub control_place : ℕ → List ℕ → Result ℕ ForwardFault
control_place next octets =
    if nat_lt most_octets (length octets + 20) then Err fault.Room
    else (if nat_le (2 ^ 31) next then Err fault.RtcpSpent else Ok next)

abbrev pub SealsControl : ℕ → KeyAndSalt → Plain → Result ℕ ForwardFault → List ℕ → ℕ → Type 0
SealsControl next keys plain result out after =
    (from octets : List ℕ) → IsControl plain from octets
    → IsForwarded (λ at. sealed_rtcp keys at octets) (λ at. after ≡ next + 1) (control_place next octets) result out

-- ---- either

-- The output is that of a step over what was kept, and what is kept now stands for what it leaves.
pub record HasSent (step : Sent × Sealing) (result : Output) (kept : Kept) : Type 0 where
  pub output : sent_of result ≡ step.0
  pub keeps : IsSealing kept step.1

-- It is sealed for an entry with this server pair.
abbrev pub SealsMediaFor : Kept → KeyAndSalt → Plain → Rewrite → Result ℕ ForwardFault → List ℕ → Kept → Type 0
SealsMediaFor kept server plain change result out after =
    (s : Sealing) (from : List ℕ) (h : Header) (inner : List ℕ) (o : Ohb) (field : Field) → IsSealing kept s → IsMedia plain from h inner o field
    → IsForwarded (media_datagram (session_keys server Srtp) h inner o field change)
    (λ at. IsSealing after (record s { streams = with_index h.ssrc at s.streams })) (media_index s.streams h inner o field change) result out

abbrev pub SealsControlFor : Kept → KeyAndSalt → Plain → Result ℕ ForwardFault → List ℕ → Kept → Type 0
SealsControlFor kept server plain result out after =
    (s : Sealing) (from octets : List ℕ) → IsSealing kept s → IsControl plain from octets
    → IsForwarded (λ at. sealed_rtcp (session_keys server Srtcp) at octets) (λ at. IsSealing after (record s { rtcp = s.rtcp + 1 }))
    (control_place s.rtcp octets) result out

-- It is sent on, or dropped, as it is to be.
abbrev pub SendsFor : Kept → Entry → ℕ → Plain → Rewrite → Output → Kept → Type 0
SendsFor kept e place plain change result after =
    (s : Sealing) (packet : Packet) → IsSealing kept s → IsPlain plain packet → HasSent (sent_to s e place change packet) result after
