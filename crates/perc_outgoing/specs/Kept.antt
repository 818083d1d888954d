-- What the code keeps of an endpoint's sending, and what it stands for.
use Rattle.std.specs.Prelude.{◌≡◌, ℕ, List, take, Ok}
use Rattle.perc_kdf.specs.Derivation.{KeyAndSalt, session_keys}
use Rattle.perc_kdf.specs.declared.Kind.TheVariants.{Srtp, Srtcp}
use Rattle.perc_window.specs.Replay.{StandsFor as WindowStandsFor}
use Rattle.perc_srtp.specs.Ends.{Stream}
use Rattle.perc_rtp.specs.Header.{Header, IsPacket}
use Rattle.perc_rtp.specs.Media.{Content}
use Rattle.perc_srtp.specs.Streams.{tx_index}
use Rattle.perc_ekt.specs.Record.{IsRecord}
use Rattle.perc_ekt.specs.declared.record.EktKeyRecord.{EktKeyRecord}
use Rattle.perc_sender.specs.Schedule.{Sending}
use Rattle.perc_receiver.specs.Table.{secret_in}
use Rattle.perc_outgoing.specs.Sending.{Outgoing, IsSending, sending_key, next_place, sent_datagram, sent_rtcp, after_send, after_rtcp}
use Rattle.perc_outgoing.specs.declared.sending.Sent.{Sent}

-- the session keys of the outer master for media and for control, the record of the SPI that it sends under, and the ends of its
-- streams
pub record Kept : Type 0 where
  pub media : KeyAndSalt
  pub control : KeyAndSalt
  pub granted : EktKeyRecord
  pub sending : Sending
  pub outer : Stream
  pub rtcp : ℕ

pub record StandsFor (kept : Kept) (out : Outgoing) : Type 0 where
  pub media : kept.media ≡ session_keys out.client Srtp
  pub control : kept.control ≡ session_keys out.client Srtcp
  pub secret : secret_in kept.granted ≡ out.secret
  pub sending : kept.sending ≡ out.sending
  pub ssrc : kept.outer.ssrc ≡ out.sending.ssrc
  pub sealed : WindowStandsFor kept.outer.window out.sealed
  pub rtcp : kept.rtcp ≡ out.rtcp
  pub sound : IsSending out

-- What is kept stands for some endpoint, under a right record.
pub record IsKept (kept : Kept) : Type 0 where
  pub right : IsRecord kept.granted
  pub stands : (out : Outgoing) × StandsFor kept out

-- This was answered, these octets stand in the buffer and this is kept: the next packet went out.
pub record IsSentAs (out : Outgoing) (content : Content) (sent : Sent) (kept : Kept) (octets : List ℕ) : Type 0 where
  pub index : sent.index ≡ out.sending.next
  pub spi : sent.spi ≡ (sending_key out).spi
  pub epoch : sent.epoch ≡ (next_place out).epoch
  pub datagram : take sent.len octets ≡ sent_datagram out content
  pub kept_is : StandsFor kept (after_send out)

-- The same of an RTCP packet.
pub record IsRtcpSentAs (out : Outgoing) (plain : List ℕ) (len : ℕ) (kept : Kept) (octets : List ℕ) : Type 0 where
  pub packet : take len octets ≡ sent_rtcp out plain
  pub kept_is : StandsFor kept (after_rtcp out)

-- A packet of this stream, whose SEQ leads to an index that wasn't sealed.
pub record IsSealable (h : Header) (body packet : List ℕ) (tx : Stream) (before : List ℕ) (index : ℕ) : Type 0 where
  pub reads : IsPacket h body packet
  pub ssrc : h.ssrc ≡ tx.ssrc
  pub window : WindowStandsFor tx.window before
  pub free : tx_index before h.seq ≡ Ok index
