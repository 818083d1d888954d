-- What the code keeps of an endpoint, and what it stands for.
use Rattle.std.specs.Prelude.{◌≡◌, ℕ, List, take, map, All, Some, Result, Ok, Err}
use Rattle.perc_base.specs.Profile.{key_length}
use Rattle.perc_contexts.specs.Receiving.{latest}
use Rattle.perc_receiver.specs.Table.{IsRightRow, IsRightWrap, Row, Secret, Wrap, secret_in, secret_of}
use Rattle.perc_receiver.specs.Receiver.{live_of}
use Rattle.perc_outgoing.specs.declared.fault.SendFault.{SendFault}
use Rattle.perc_outgoing.specs.declared.fault.RtcpSendFault.{RtcpSendFault}
use Rattle.perc_outgoing.specs.declared.sending.Sent.{Sent}
use Rattle.perc_outgoing.specs.Kept as outgoing
use Rattle.perc_incoming.specs.Kept as incoming
use Rattle.perc_endpoint.specs.declared.fault.GrantFault.{GrantFault}
use Rattle.perc_endpoint.specs.Endpoint.{Departure, Endpoint}

pub record Kept : Type 0 where
  pub sending : outgoing.Kept
  pub receiving : incoming.Kept

pub record StandsFor (kept : Kept) (e : Endpoint) : Type 0 where
  pub profile : kept.receiving.profile ≡ e.profile
  pub sending : outgoing.StandsFor kept.sending e.sending
  pub receiving : incoming.StandsFor kept.receiving e.receiving

-- It sends under a record with a key of the profile's length, whose SPI is the latest. What is kept stands for some endpoint.
pub record IsKept (kept : Kept) : Type 0 where
  pub size : kept.sending.granted.len ≡ key_length kept.receiving.profile
  pub newest : latest (live_of (map secret_in kept.receiving.records)) ≡ Some kept.sending.granted.spi
  pub stands : (e : Endpoint) × StandsFor kept e

-- This datagram stands at the front of the octets, and its place is told.
pub record IsSentAs (d : Departure) (told : Sent) (octets : List ℕ) : Type 0 where
  pub index : told.index ≡ d.place.index
  pub spi : told.spi ≡ d.place.spi
  pub epoch : told.epoch ≡ d.place.epoch
  pub datagram : take told.len octets ≡ d.datagram

-- This is answered, and these octets stand in the buffer then.
abbrev pub IsDeparture : Result Departure SendFault → Result Sent SendFault → List ℕ → Type 0
IsDeparture (Ok d) (Ok told) octets = IsSentAs d told octets
IsDeparture (Ok d) (Err fault) octets = ⊥
IsDeparture (Err fault) result octets = result ≡ Err fault

-- The same of an RTCP packet.
abbrev pub IsRtcpDeparture : Result (List ℕ) RtcpSendFault → Result ℕ RtcpSendFault → List ℕ → Type 0
IsRtcpDeparture (Ok packet) (Ok len) octets = take len octets ≡ packet
IsRtcpDeparture (Ok packet) (Err fault) octets = ⊥
IsRtcpDeparture (Err fault) result octets = result ≡ Err fault

-- A grant is answered so; its epoch isn't told.
abbrev pub IsGranted : Result ℕ GrantFault → Result (Unit {0}) GrantFault → Type 0
IsGranted (Ok epoch) result = result ≡ Ok tt
IsGranted (Err fault) result = result ≡ Err fault

-- These secrets have the one that it sends under.
abbrev pub HasSecret : List Secret → Endpoint → Type 0
HasSecret secrets e = secret_of secrets e.sending.secret.spi ≡ Some e.sending.secret

-- A row and wraps are right for secrets.
pub record IsAdded (secrets : List Secret) (row : Row) (wraps : List Wrap) : Type 0 where
  pub row_is : IsRightRow secrets row
  pub wraps_are : All (IsRightWrap secrets) wraps
