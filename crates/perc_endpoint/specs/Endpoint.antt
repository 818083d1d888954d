-- An endpoint of a conference, and what each of its calls answers and leaves (RFC 8723 section 5, RFC 8870 section 4).
use Rattle.std.specs.Prelude.{ℕ, List, Option, Some, None, Result, Ok, Err}
use Rattle.perc_base.specs.declared.profile.Profile.{Profile}
use Rattle.perc_kdf.specs.Derivation.{KeyAndSalt}
use Rattle.perc_rtp.specs.Media.{Content}
use Rattle.perc_srtp.specs.declared.rtcp.RtcpFault.{RtcpFault}
use Rattle.perc_sender.specs.Schedule.{take_answer}
use Rattle.perc_sender.specs.declared.SendPlace.{SendPlace}
use Rattle.perc_sender.specs.declared.TakeFault.{TakeFault}
use Rattle.perc_sender.specs.declared.TakeFault.TheVariants.{Repeated, Limit}
use Rattle.perc_contexts.specs.Receiving.{spi_answer}
use Rattle.perc_contexts.specs.declared.SpiOld.{SpiOld as OldSpi}
use Rattle.perc_receiver.specs.declared.refusal.Refusal.{Refusal}
use Rattle.perc_receiver.specs.Table.{Row, Secret, Wrap}
use Rattle.perc_receiver.specs.Receiver.{Accepted, Receiver, granted, live_of, outcome, reach_of, settled as receiver_settled}
use Rattle.perc_receiver.specs.Calls as receiver
use Rattle.perc_outgoing.specs.declared.fault.SendFault.{SendFault}
use Rattle.perc_outgoing.specs.declared.fault.RtcpSendFault.{RtcpSendFault}
use Rattle.perc_outgoing.specs.Sending as outgoing
use Rattle.perc_outgoing.specs.Sending.{Outgoing, after_rtcp, after_send, after_take, next_place, rtcp_send_fault, send_fault, sent_datagram, sent_row, sent_rtcp, sent_wraps}
use Rattle.perc_incoming.specs.Control.{outcome_rtcp}
use Rattle.perc_incoming.specs.Outcome.{after_reach}
use Rattle.perc_endpoint.specs.declared.fault.GrantFault.{GrantFault}
use Rattle.perc_endpoint.specs.declared.fault.GrantFault.TheVariants.{SpiOld, KeyRepeated, KeyLimit}

pub record Endpoint : Type 0 where
  pub profile : Profile
  pub sending : Outgoing
  pub receiving : Receiver

-- an endpoint that sent and received nothing, with an outer master for each direction, an EKT key's secret, and its first key under it
abbrev pub started : Profile → (ssrc first : ℕ) → (client server : KeyAndSalt) → Secret → (key : List ℕ) → Endpoint
started profile ssrc first client server s key = record {
  profile = profile;
  sending = outgoing.started client ssrc first s key;
  receiving = receiver.started ssrc server s;
}

-- ---- keys

-- why a key isn't taken
abbrev pub key_refusal : TakeFault → GrantFault
key_refusal Repeated = KeyRepeated
key_refusal Limit = KeyLimit

abbrev pub taken_key : Result ℕ TakeFault → Result ℕ GrantFault
taken_key (Ok epoch) = Ok epoch
taken_key (Err fault) = Err (key_refusal fault)

-- whether an SPI is above the latest
abbrev pub new_spi : Result (Option ℕ) OldSpi → Result ℕ GrantFault → Result ℕ GrantFault
new_spi (Ok retires) key = key
new_spi (Err old) key = Err (SpiOld old.0)

-- What is answered where a secret and a key under it are to be taken: the key's epoch. The first fault is told: the secret's SPI isn't
-- above the latest; the key was taken before; as many were taken as may be.
abbrev pub grant_answer : Endpoint → Secret → (key : List ℕ) → Result ℕ GrantFault
grant_answer e s key = new_spi (spi_answer (live_of e.receiving.secrets) s.spi) (taken_key (take_answer e.sending.sending s.spi key))

-- It sends under the new key from then on, and receives what comes under the new SPI; after a refusal all is as it was.
abbrev pub after_grant : Endpoint → Secret → (key : List ℕ) → Result ℕ GrantFault → Endpoint
after_grant e s key (Ok epoch) = record e { sending = after_take e.sending s key; receiving = granted s e.receiving }
after_grant e s key (Err fault) = e

-- The same of a key under the present SPI.
abbrev pub rekey_answer : Endpoint → (key : List ℕ) → Result ℕ GrantFault
rekey_answer e key = taken_key (take_answer e.sending.sending e.sending.secret.spi key)

abbrev pub after_rekey : Endpoint → (key : List ℕ) → Result ℕ GrantFault → Endpoint
after_rekey e key (Ok epoch) = record e { sending = after_take e.sending e.sending.secret key }
after_rekey e key (Err fault) = e

-- ---- what it sends

-- a datagram, and its packet's index, SPI and epoch
pub record Departure : Type 0 where
  pub place : SendPlace
  pub datagram : List ℕ

abbrev pub departing : Endpoint → Content → Option SendFault → Result Departure SendFault × Endpoint
departing e content None =
    (Ok (record { place = next_place e.sending; datagram = sent_datagram e.sending content }), record e { sending = after_send e.sending })
departing e content (Some fault) = (Err fault, e)

-- the next datagram of this media or the first fault, and the endpoint behind it
abbrev pub sent : Endpoint → Content → Result Departure SendFault × Endpoint
sent e content = departing e content (send_fault e.sending content)

-- What a packet that is sent adds to a table of what was sent: its row, as the datagram with this number of a sender, and the wrap of
-- its full field, if it has one.
abbrev pub row_added : (sender : List ℕ) (number : ℕ) → Endpoint → Content → Row
row_added sender number e content = sent_row sender number e.sending content

abbrev pub wraps_added : Endpoint → List Wrap
wraps_added e = sent_wraps e.sending

abbrev pub departing_rtcp : Endpoint → (plain : List ℕ) → Option RtcpSendFault → Result (List ℕ) RtcpSendFault × Endpoint
departing_rtcp e plain None = (Ok (sent_rtcp e.sending plain), record e { sending = after_rtcp e.sending })
departing_rtcp e plain (Some fault) = (Err fault, e)

-- the same of an RTCP packet
abbrev pub rtcp_sent : Endpoint → (plain : List ℕ) → Result (List ℕ) RtcpSendFault × Endpoint
rtcp_sent e plain = departing_rtcp e plain (rtcp_send_fault e.sending plain)

-- ---- what it receives

-- the packet that is accepted or the first refusal, and the endpoint behind it
abbrev pub received : Endpoint → (datagram : List ℕ) → Result Accepted Refusal × Endpoint
received e datagram = ((outcome e.receiving datagram).0, record e { receiving = (outcome e.receiving datagram).1 })

-- the endpoint once a datagram was opened hop by hop, or refused, and once a packet was accepted, or not
abbrev pub reached : Endpoint → (datagram : List ℕ) → Endpoint
reached e datagram = record e { receiving = after_reach e.receiving (reach_of e.receiving datagram) }

abbrev pub settled : Endpoint → Result Accepted Refusal → Endpoint
settled e answer = record e { receiving = receiver_settled e.receiving answer }

-- the same of an RTCP packet
abbrev pub rtcp_received : Endpoint → (datagram : List ℕ) → Result (List ℕ) RtcpFault × Endpoint
rtcp_received e datagram = ((outcome_rtcp e.receiving datagram).0, record e { receiving = (outcome_rtcp e.receiving datagram).1 })
