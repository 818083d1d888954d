-- What the code of the opening side holds, and what its parts do: a datagram opened in a copy, at the place of a serial, among all.
use Rattle.std.specs.Prelude.{◌≡◌, ℕ, ◌+◌, ◌<◌, ◌⊎◌, Bool, true, false, if◌then◌else◌, List, [], ◌∷◌, length, take, drop, Option, Some, None, Result, Ok, Err, OnOk, slice_index_or}
use Rattle.std.specs.List.{list_any}
use Rattle.perc_kdf.specs.Derivation.{session_keys}
use Rattle.perc_kdf.specs.declared.Kind.TheVariants.{Srtp, Srtcp}
use Rattle.perc_window.specs.Replay.{Marks, StandsFor as WindowStandsFor}
use Rattle.perc_rtp.specs.declared.carried.Carried.{Carried}
use Rattle.perc_rtp.specs.declared.carried.Carried.TheVariants as carried
use Rattle.perc_ekt.specs.Field.{spelling}
use Rattle.perc_double.specs.Double.{IsOpened}
use Rattle.perc_srtp.specs.Sealed.{BeginsWith}
use Rattle.perc_srtp.specs.Streams.{rtcp_opened}
use Rattle.perc_srtp.specs.declared.rtcp.RtcpFault.{RtcpFault}
use Rattle.perc_keyset.specs.declared.Entry.{Entry}
use Rattle.perc_outer.specs.Kept as outer
use Rattle.perc_outer.specs.Datagram as datagram
use Rattle.perc_outer.specs.Datagram.{Reach, reached, streams_after}
use Rattle.perc_outer.specs.declared.fault.OuterFault.{OuterFault}
use Rattle.perc_outer.specs.declared.fault.OuterFault.TheVariants.{Ohb as Block}
use Rattle.perc_distributor.specs.declared.fault.InboundFault.{InboundFault}
use Rattle.perc_distributor.specs.declared.fault.InboundFault.TheVariants as fault
use Rattle.perc_distributor.specs.declared.plain.Plain.{Plain}
use Rattle.perc_distributor.specs.Inbound.{Control, Heard, Media, Packet, heard_of, taken, with_heard}
use Rattle.perc_distributor.specs.Kept.{IsPlain, Place, kept_of}
use Rattle.perc_distributor.specs.Rooms.{is_free}
use Rattle.perc_distributor.specs.Tables.{Differ, IsPlaceOf}

-- ---- what is kept

-- what is kept of what came from a serial: its outer streams, and the window of its RTCP packets
abbrev pub Origin : Type 0
Origin = Place Marks

-- the same streams and RTCP indices, whosever they are
pub record IsHeard (k : Origin) (h : Heard) : Type 0 where
  pub streams : outer.StandsFor k.streams h.streams
  pub rtcp : WindowStandsFor k.rtcp h.rtcp

-- What is kept stands for something.
abbrev pub StandsForSome : Origin → Type 0
StandsForSome k = (h : Heard) × IsHeard k h

-- Where nothing is kept of a serial, nothing came from it.
abbrev pub SameHeard : Option Origin → Heard → Type 0
SameHeard None h = (h.streams ≡ []) × (h.rtcp ≡ [])
SameHeard (Some k) h = IsHeard k h

-- What is kept stands for what was heard, serial by serial.
pub record Hears (kept : List Origin) (heard : List Heard) : Type 0 where
  pub each : (serial : ℕ) → SameHeard (kept_of kept serial) (heard_of heard serial)

-- the same of all serials but one
pub record HearsBut (serial : ℕ) (kept : List Origin) (heard : List Heard) : Type 0 where
  pub each : (t : ℕ) → (serial ≡ t → ⊥) → SameHeard (kept_of kept t) (heard_of heard t)

-- how many places there are: one more than serials in a set, so that one is free for a packet that may not verify
abbrev pub most_origins : ℕ
most_origins = 65

-- No serial has two places, and one is free.
pub record AreOrigins (kept : List Origin) : Type 0 where
  pub size : length kept ≡ most_origins
  pub differ : Differ kept
  pub free : list_any is_free kept ≡ true

-- ---- one datagram of a serial

-- what a datagram is for a serial's entry, by what became of it hop by hop
abbrev pub media_of : Entry → Reach → Result Packet InboundFault
media_of e (datagram.Refused f) = Err (fault.Outer f)
media_of e (datagram.Blocked ssrc index f) = Err (fault.Outer (Block f))
media_of e (datagram.Reached o) = Ok (Media e.association o.header o.inner o.block o.field)

abbrev pub control_of : Entry → Result (ℕ × List ℕ) RtcpFault → Result Packet InboundFault
control_of e (Err f) = Err (fault.Rtcp f)
control_of e (Ok opened) = Ok (Control e.association opened.1)

-- the RTCP indices that are accepted behind it
abbrev pub indices_after : List ℕ → Result (ℕ × List ℕ) RtcpFault → List ℕ
indices_after accepted (Err f) = accepted
indices_after accepted (Ok opened) = opened.0 ∷ accepted

abbrev pub media_from : Entry → Heard → Reach → Result Packet InboundFault × Heard
media_from e h reach = (media_of e reach, record h { streams = streams_after h.streams reach })

abbrev pub control_from : Entry → Heard → Result (ℕ × List ℕ) RtcpFault → Result Packet InboundFault × Heard
control_from e h opened = (control_of e opened, record h { rtcp = indices_after h.rtcp opened })

-- What is opened of a media or RTCP packet of an entry, and what is kept of its serial then.
abbrev pub opened_from : Entry → Heard → Bool → List ℕ → Result Packet InboundFault × Heard
opened_from e h rtcp octets =
    if rtcp then control_from e h (rtcp_opened (session_keys e.client Srtcp) h.rtcp octets)
    else media_from e h (reached (session_keys e.client Srtp) None h.streams octets)

-- whether a datagram is RTCP; none where it is neither RTP nor RTCP
abbrev pub is_control : Carried → Option Bool
is_control carried.Rtp = Some false
is_control carried.Rtcp = Some true
is_control carried.Dtls = None
is_control carried.Other = None

-- A tag has verified.
abbrev pub is_verified : {X : Type 0} → Result X InboundFault → Bool
is_verified (Ok x) = true
is_verified (Err (fault.Outer (Block f))) = true
is_verified (Err f) = false

-- What is answered for it, and what stands in `out` then.
abbrev pub IsAnswer : Result Packet InboundFault → Result (Unit {0}) InboundFault → Plain → Type 0
IsAnswer (Err f) result out = result ≡ Err f
IsAnswer (Ok packet) result out = (result ≡ Ok tt) × IsPlain out packet

-- Where it was opened, some packet stands in `out`.
abbrev pub IsSomePlain : Result (Unit {0}) InboundFault → Plain → Type 0
IsSomePlain result out = OnOk result ((packet : Packet) × IsPlain out packet)

pub record HasOpened (step : Result Packet InboundFault × Heard) (result : Result (Unit {0}) InboundFault) (out : Plain) (kept : Origin) : Type 0 where
  pub answer : IsAnswer step.0 result out
  pub keeps : IsHeard kept step.1

-- ---- a copy

-- The datagram was opened where its copy stood: then the packet is its first n octets, and in the datagram the field begins 16
-- octets behind them.
pub record IsOpenedAt (o : datagram.Opened) (octets copy : List ℕ) (n : ℕ) : Type 0 where
  pub packet : IsOpened o.header o.inner o.block (take n copy)
  pub field : drop (n + 16) octets ≡ spelling o.field

abbrev pub IsCopyReached : Reach → Result ℕ OuterFault → List ℕ → List ℕ → Type 0
IsCopyReached (datagram.Refused f) result octets copy = result ≡ Err f
IsCopyReached (datagram.Blocked ssrc index f) result octets copy = result ≡ Err (Block f)
IsCopyReached (datagram.Reached o) result octets copy = (n : ℕ) × (result ≡ Ok n) × IsOpenedAt o octets copy n

-- The same of an RTCP packet, and the window then.
abbrev pub IsCopyOpened : List ℕ → Result (ℕ × List ℕ) RtcpFault → Result ℕ RtcpFault → List ℕ → Marks → Marks → Type 0
IsCopyOpened accepted (Err f) result copy before after = (result ≡ Err f) × (after ≡ before)
IsCopyOpened accepted (Ok opened) result copy before after =
    (result ≡ Ok (length opened.1)) × BeginsWith opened.1 copy × WindowStandsFor after (opened.0 ∷ accepted)

-- ---- among all

-- It stands for nothing heard.
pub record IsNothing (k : Origin) : Type 0 where
  pub streams : outer.StandsFor k.streams []
  pub rtcp : WindowStandsFor k.rtcp []

-- The serial has no place, and this one is free.
pub record IsFreeFor (kept : List Origin) (serial place : ℕ) : Type 0 where
  pub in_range : place < length kept
  pub none : kept_of kept serial ≡ None
  pub free : (d : Origin) → (slice_index_or kept place d).serial ≡ None

-- This is the place for a serial: its own, or where it has none a free one.
abbrev pub IsPlaceFor : List Origin → ℕ → ℕ → Type 0
IsPlaceFor kept serial place = IsPlaceOf kept serial place ⊎ IsFreeFor kept serial place

-- What is kept there stands for what was heard from a serial.
abbrev pub HasHeardAt : List Origin → ℕ → ℕ → Type 0
HasHeardAt kept serial place =
    (heard : List Heard) (d : Origin) → Hears kept heard → IsHeard (slice_index_or kept place d) (heard_of heard serial)

-- Whatever was heard before, that is what was heard now too.
abbrev pub HearsStill : List Origin → List Origin → Type 0
HearsStill before after = (heard : List Heard) → Hears before heard → Hears after heard

-- What was heard is a serial's, and what the set's other serials have stays.
abbrev pub IsSettled : List Entry → ℕ → List Origin → ℕ → List Origin → Type 0
IsSettled set serial before place after =
    (heard : List Heard) (h : Heard) (d : Origin) → h.serial ≡ serial → HearsBut serial before heard → IsHeard (slice_index_or before place d) h
    → Hears after (with_heard set heard h)

-- What becomes of what was heard, by what one datagram of a serial was.
abbrev pub settled : List Entry → List Heard → Result Packet InboundFault × Heard → Result Packet InboundFault × List Heard
settled set heard step = (step.0, if is_verified step.0 then with_heard set heard step.1 else heard)

-- what is taken of a datagram: what is answered, what stands in `out`, and what is kept
pub record HasTaken (step : Result Packet InboundFault × List Heard) (result : Result (Unit {0}) InboundFault) (out : Plain) (kept : List Origin) : Type 0 where
  pub answer : IsAnswer step.0 result out
  pub keeps : Hears kept step.1

abbrev pub Takes : List Origin → List Entry → List ℕ → List ℕ → Result (Unit {0}) InboundFault → Plain → List Origin → Type 0
Takes kept set from octets result out after =
    (heard : List Heard) → Hears kept heard → HasTaken (taken set heard from octets) result out after

abbrev pub TakesFrom : List Origin → List Entry → Entry → Bool → List ℕ → Result (Unit {0}) InboundFault → Plain → List Origin → Type 0
TakesFrom kept set e rtcp octets result out after =
    (heard : List Heard) → Hears kept heard → HasTaken (settled set heard (opened_from e (heard_of heard e.serial) rtcp octets)) result out after
