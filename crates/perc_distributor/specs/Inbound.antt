-- What a distributor opens: media and control packets of the associations in a key set, each under its client pair.
use Rattle.std.specs.Prelude.{ℕ, Bool, not, ◌==◌, ◌&&◌, List, [], ◌∷◌, ◌++◌, filter, find, Option, Some, None, Result, Ok, Err}
use Rattle.std.specs.List.{list_any}
use Rattle.std.specs.Option.{unwrap_or}
use Rattle.perc_kdf.specs.Derivation.{session_keys}
use Rattle.perc_kdf.specs.declared.Kind.TheVariants.{Srtp, Srtcp}
use Rattle.perc_rtp.specs.Header.{Header}
use Rattle.perc_rtp.specs.Carried.{kind_of}
use Rattle.perc_rtp.specs.declared.carried.Carried.{Carried}
use Rattle.perc_rtp.specs.declared.carried.Carried.TheVariants as carried
use Rattle.perc_ohb.specs.declared.block.Ohb.{Ohb}
use Rattle.perc_ekt.specs.Field.{Field}
use Rattle.perc_srtp.specs.Streams.{rtcp_opened}
use Rattle.perc_srtp.specs.declared.rtcp.RtcpFault.{RtcpFault}
use Rattle.perc_keyset.specs.Set.{entry_of}
use Rattle.perc_keyset.specs.declared.Entry.{Entry}
use Rattle.perc_outer.specs.Streams.{OuterStream}
use Rattle.perc_outer.specs.Datagram as outer
use Rattle.perc_outer.specs.Datagram.{Reach, reached, streams_after}
use Rattle.perc_outer.specs.declared.fault.OuterFault.TheVariants.{Ohb as Block}
use Rattle.perc_distributor.specs.declared.fault.InboundFault.{InboundFault}
use Rattle.perc_distributor.specs.declared.fault.InboundFault.TheVariants as fault

-- an opened packet of an association: media, by its header, its inner octets, its block and its field; or a control packet
pub data Packet : Type 0 where
  Media : (from : List ℕ) → Header → (inner : List ℕ) → Ohb → Field → Packet
  Control : (from : List ℕ) → (octets : List ℕ) → Packet

-- what is kept of one serial: its outer streams, and the RTCP indices that were accepted
pub record Heard : Type 0 where
  pub serial : ℕ
  pub streams : List OuterStream
  pub rtcp : List ℕ

-- The set has an entry of this serial.
abbrev pub in_set : List Entry → ℕ → Bool
in_set set serial = list_any (λ e. e.serial == serial) set

abbrev pub nothing_heard : ℕ → Heard
nothing_heard serial = record { serial = serial; streams = []; rtcp = [] }

abbrev pub heard_of : List Heard → ℕ → Heard
heard_of heard serial = unwrap_or (find (λ x. x.serial == serial) heard) (nothing_heard serial)

-- Once a tag has verified, what is kept of serials that aren't in the set goes, and this stands for its own.
abbrev pub with_heard : List Entry → List Heard → Heard → List Heard
with_heard set heard new = filter (λ x. in_set set x.serial && not (x.serial == new.serial)) heard ++ new ∷ []

abbrev pub with_reach : List Entry → List Heard → ℕ → Reach → List Heard
with_reach set heard serial reach =
    with_heard set heard (record (heard_of heard serial) { streams = streams_after (heard_of heard serial).streams reach })

abbrev pub taken_reach : List Entry → List Heard → Entry → Reach → Result Packet InboundFault × List Heard
taken_reach set heard e (outer.Refused f) = (Err (fault.Outer f), heard)
taken_reach set heard e (outer.Blocked ssrc index f) =
    (Err (fault.Outer (Block f)), with_reach set heard e.serial (outer.Blocked ssrc index f))
taken_reach set heard e (outer.Reached o) =
    (Ok (Media e.association o.header o.inner o.block o.field), with_reach set heard e.serial (outer.Reached o))

abbrev pub taken_control : List Entry → List Heard → Entry → Result (ℕ × List ℕ) RtcpFault → Result Packet InboundFault × List Heard
taken_control set heard e (Err f) = (Err (fault.Rtcp f), heard)
taken_control set heard e (Ok opened) =
    (Ok (Control e.association opened.1), with_heard set heard (record (heard_of heard e.serial) { rtcp = opened.0 ∷ (heard_of heard e.serial).rtcp }))

abbrev pub taken_of : List Entry → List Heard → Carried → Option Entry → List ℕ → Result Packet InboundFault × List Heard
taken_of set heard carried.Dtls entry datagram = (Err fault.NotMedia, heard)
taken_of set heard carried.Other entry datagram = (Err fault.NotMedia, heard)
taken_of set heard carried.Rtp None datagram = (Err fault.NoAssociation, heard)
taken_of set heard carried.Rtcp None datagram = (Err fault.NoAssociation, heard)
taken_of set heard carried.Rtp (Some e) datagram =
    taken_reach set heard e (reached (session_keys e.client Srtp) None (heard_of heard e.serial).streams datagram)
taken_of set heard carried.Rtcp (Some e) datagram =
    taken_control set heard e (rtcp_opened (session_keys e.client Srtcp) (heard_of heard e.serial).rtcp datagram)

-- What is opened of a datagram from an association, or the first refusal, and what is kept then.
unfoldable pub taken : List Entry → List Heard → List ℕ → List ℕ → Result Packet InboundFault × List Heard
taken set heard from datagram = taken_of set heard (kind_of datagram) (entry_of set from) datagram
