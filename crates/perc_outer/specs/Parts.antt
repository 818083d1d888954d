-- What is read of a datagram before its packet is opened.
use Rattle.std.specs.Prelude.{◌≡◌, ℕ, ◌≤◌, false, List, length, take, Option}
use Rattle.perc_kdf.specs.Derivation.{KeyAndSalt}
use Rattle.perc_rtp.specs.Header.{Header, IsPacket, head_of}
use Rattle.perc_ekt.specs.Field.{Field, IsDatagram, told_of}
use Rattle.perc_outer.specs.declared.fault.OuterFault.{OuterFault}
use Rattle.perc_outer.specs.declared.reaching.Front.{Front}
use Rattle.perc_outer.specs.Streams.{OuterStream}
use Rattle.perc_outer.specs.Datagram.{Refused, is_own, reached}

-- The datagram is a packet of another SSRC and a field, and these are told of it.
pub record IsFront (own : Option ℕ) (datagram : List ℕ) (front : Front) : Type 0 where
  pub field : Field
  pub header : Header
  pub rest : List ℕ
  pub within : front.end ≤ length datagram
  pub is_datagram : IsDatagram (take front.end datagram) field datagram
  pub is_packet : IsPacket header rest (take front.end datagram)
  pub other : is_own own header.ssrc ≡ false
  pub field_is : front.field ≡ told_of field front.end
  pub head_is : front.head ≡ head_of header

-- It is refused for this, whatever the keys and the streams.
abbrev pub IsRefused : Option ℕ → List ℕ → OuterFault → Type 0
IsRefused own datagram fault =
    (keys : KeyAndSalt) (streams : List OuterStream) → reached keys own streams datagram ≡ Refused fault
