-- Which datagrams are reached.
use Rattle.std.specs.Prelude.{◌≡◌, ℕ, ◌++◌, false, List, Option, Ok}
use Rattle.perc_kdf.specs.Derivation.{KeyAndSalt}
use Rattle.perc_rtp.specs.Header.{IsPacket}
use Rattle.perc_ohb.specs.Block.{IsOhb, spelling}
use Rattle.perc_ekt.specs.Field.{IsDatagram}
use Rattle.perc_srtp.specs.Sealed.{sealed_body}
use Rattle.perc_srtp.specs.Streams.{rx_index}
use Rattle.perc_outer.specs.Streams.{OuterStream, accepted_of, is_full_for}
use Rattle.perc_outer.specs.Datagram.{Opened, is_own}

-- The datagram is a packet of another SSRC and a field. There is room for the packet's stream, and behind its header stand the
-- inner octets and the block, sealed at the index to which its sequence number leads.
pub record IsReached (keys : KeyAndSalt) (own : Option ℕ) (streams : List OuterStream) (datagram : List ℕ) (o : Opened) : Type 0 where
  pub packet : List ℕ
  pub rest : List ℕ
  pub is_datagram : IsDatagram packet o.field datagram
  pub is_packet : IsPacket o.header rest packet
  pub other : is_own own o.header.ssrc ≡ false
  pub room : is_full_for streams o.header.ssrc ≡ false
  pub index_is : rx_index (accepted_of streams o.header.ssrc) o.header.seq ≡ Ok o.index
  pub sealed : rest ≡ sealed_body keys o.index o.header (o.inner ++ spelling o.block)
  pub block : IsOhb o.block
