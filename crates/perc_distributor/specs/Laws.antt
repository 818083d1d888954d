-- What a media packet is on its way from its sender through a distributor to a receiver.
use Rattle.std.specs.Prelude.{◌≡◌, ℕ, ◌<◌, ◌^◌, false, List, ◌++◌, Option, Ok, None, Some, Contains}
use Rattle.std.specs.List.{slice_get}
use Rattle.perc_kdf.specs.Derivation.{IsMaster, KeyAndSalt, session_keys}
use Rattle.perc_kdf.specs.declared.Kind.TheVariants.{Srtp}
use Rattle.perc_rtp.specs.Header.{Header, IsHeader}
use Rattle.perc_rtp.specs.Carried.{kind_of}
use Rattle.perc_rtp.specs.declared.carried.Carried.TheVariants.{Rtp}
use Rattle.perc_ohb.specs.Block.{IsOhb}
use Rattle.perc_ohb.specs.Rewriting.{IsRewrite, block_after, restored, Rewrite}
use Rattle.perc_ohb.specs.declared.block.Ohb.{Ohb}
use Rattle.perc_ekt.specs.Field.{Field, IsField, spelling}
use Rattle.perc_srtp.specs.Streams.{rx_index}
use Rattle.perc_double.specs.Double.{double, nothing_kept, relayed}
use Rattle.perc_keyset.specs.Set.{entry_of}
use Rattle.perc_keyset.specs.declared.Entry.{Entry}
use Rattle.perc_outer.specs.Streams.{OuterStream, accepted_of, is_full_for}
use Rattle.perc_outer.specs.Datagram.{Opened, Reached, is_own, original_header, reached}
use Rattle.perc_distributor.specs.Inbound.{Control, Heard, Media, Packet, taken}
use Rattle.perc_distributor.specs.Forwarding.{Dropped, Sealed, Sealing, Sent, sent_to}

-- Header, block and field have spellings.
pub record HasSpelling (h : Header) (o : Ohb) (field : Field) : Type 0 where
  pub header_is : IsHeader h
  pub block_is : IsOhb o
  pub field_is : IsField field

-- the datagram of a packet that is sealed at an index, with its field behind it
abbrev pub datagram_of : KeyAndSalt → ℕ → Header → List ℕ → Ohb → Field → List ℕ
datagram_of keys index h inner o field = double keys index h inner o ++ spelling field

-- A receiver with this SSRC or none, over these streams, opens a packet of this header at this index, where its tag verifies.
pub record Awaits (own : Option ℕ) (streams : List OuterStream) (h : Header) (index : ℕ) : Type 0 where
  pub other : is_own own h.ssrc ≡ false
  pub room : is_full_for streams h.ssrc ≡ false
  pub fresh : rx_index (accepted_of streams h.ssrc) h.seq ≡ Ok index

-- The datagram came as RTP from an association that the set has this entry of.
pub record ComesFrom (set : List Entry) (from : List ℕ) (e : Entry) (datagram : List ℕ) : Type 0 where
  pub entry : entry_of set from ≡ Some e
  pub kind : kind_of datagram ≡ Rtp

-- what is reached of a datagram
abbrev pub opened_as : ℕ → Header → List ℕ → Ohb → Field → Opened
opened_as index h inner o field = record { header = h; inner = inner; block = o; field = field; index = index }

-- and what is reached of it once a distributor changed and sealed it
abbrev pub opened_after : ℕ → Header → List ℕ → Ohb → Field → Rewrite → Opened
opened_after index h inner o field change = opened_as index (relayed h change) inner (block_after h o change) field

-- ---- from its sender to a receiver

-- A sender with this entry seals a packet of this header at this index, with this field behind it.
pub record IsSent (e : Entry) (h : Header) (field : Field) (index : ℕ) : Type 0 where
  pub client : IsMaster e.client
  pub header_is : IsHeader h
  pub field_is : IsField field
  pub in_range : index < 2 ^ 48

-- what it sends: its block keeps nothing
abbrev pub sent_datagram : Entry → ℕ → Header → List ℕ → Field → List ℕ
sent_datagram e index h inner field = datagram_of (session_keys e.client Srtp) index h inner nothing_kept field

-- A datagram from an association with the first entry was taken as this packet; with some change in it, the packet was sent on for
-- the second entry; and at some receiver it was reached under that entry's server pair.
pub record IsOnItsWay (e d : Entry) (datagram : List ℕ) (packet : Packet) (o : Opened) : Type 0 where
  pub set : List Entry
  pub heard : List Heard
  pub from : List ℕ
  pub entry : entry_of set from ≡ Some e
  pub taken_as : (taken set heard from datagram).0 ≡ Ok packet
  pub sealing : Sealing
  pub place : ℕ
  pub change : Rewrite
  pub may : IsRewrite change
  pub to : List ℕ
  pub octets : List ℕ
  pub sent_as : (sent_to sealing d place change packet).0 ≡ Sealed place to octets
  pub server : IsMaster d.server
  pub own : Option ℕ
  pub streams : List OuterStream
  pub reached_as : reached (session_keys d.server Srtp) own streams octets ≡ Reached o

-- What is reached has this original header, these inner octets and this field.
pub record HasArrived (original : Header) (inner : List ℕ) (field : Field) (o : Opened) : Type 0 where
  pub header_is : original_header o ≡ original
  pub inner_is : o.inner ≡ inner
  pub field_is : o.field ≡ field

-- ---- outputs

-- The datagram is a packet after a change, sealed under an entry's server pair at this index, with its field behind it.
pub record IsRelayed (e : Entry) (h : Header) (inner : List ℕ) (o : Ohb) (field : Field) (change : Rewrite) (octets : List ℕ) : Type 0 where
  pub index : ℕ
  pub in_range : index < 2 ^ 48
  pub sealed_as : octets ≡ datagram_of (session_keys e.server Srtp) index (relayed h change) inner (block_after h o change) field

-- the same for an entry of the set with this association, where the packet is one of media
abbrev pub IsRelayedTo : List Entry → Rewrite → List ℕ → List ℕ → Option Packet → Type 0
IsRelayedTo set change to octets None = ⊥
IsRelayedTo set change to octets (Some (Control from plain)) = Unit {0}
IsRelayedTo set change to octets (Some (Media from h inner o field)) =
    (e : Entry) × Contains set e × (e.association ≡ to) × IsRelayed e h inner o field change octets

-- An output that is sealed is that of its packet of the batch.
abbrev pub IsRelayOf : List Entry → List Packet → Rewrite → Sent → Type 0
IsRelayOf set batch change (Sealed place to octets) = IsRelayedTo set change to octets (slice_get batch place)
IsRelayOf set batch change (Dropped place to f) = Unit {0}

-- What a receiver with the entry's server pair makes of a relayed packet: it opens where it is awaited, and where it opens it has
-- what was restored of the packet before, its inner octets and its field.
pub record OpensAsRelayed (e : Entry) (h : Header) (inner : List ℕ) (o : Ohb) (field : Field) (change : Rewrite) (octets : List ℕ) (r : IsRelayed e h inner o field change octets) : Type 0 where
  pub opens : (own : Option ℕ) (streams : List OuterStream) → Awaits own streams (relayed h change) r.index
      → reached (session_keys e.server Srtp) own streams octets ≡ Reached (opened_after r.index h inner o field change)
  pub only : (own : Option ℕ) (streams : List OuterStream) (opened : Opened) → reached (session_keys e.server Srtp) own streams octets ≡ Reached opened
      → HasArrived (restored h o) inner field opened
