-- What the code keeps of outer streams, and what it tells of an opened datagram.
use Rattle.std.specs.Prelude.{◌≡◌, ℕ, ◌+◌, List, ◌++◌, length, take, drop, ◌==◌, Option, Some, None, find, Result, Ok, Err, ◌<◌, ◌≤◌, IfSome}
use Rattle.perc_window.specs.Replay.{StandsFor as WindowStandsFor}
use Rattle.perc_srtp.specs.Ends.{Stream}
use Rattle.perc_srtp.specs.Sealed.{BeginsWith}
use Rattle.perc_rtp.specs.Header.{Header, spelling}
use Rattle.perc_ohb.specs.Block as ohb
use Rattle.perc_ekt.specs.Field as ekt
use Rattle.perc_outer.specs.Streams.{OuterStream, is_of, with_index}
use Rattle.perc_outer.specs.declared.fault.OuterFault.{OuterFault}
use Rattle.perc_outer.specs.declared.fault.OuterFault.TheVariants.{Ohb}
use Rattle.perc_outer.specs.Datagram as datagram
use Rattle.perc_outer.specs.Datagram.{Opened, Reach}
use Rattle.perc_outer.specs.declared.reaching.Reached.{Reached}

abbrev pub kept_of : List Stream → ℕ → Option Stream
kept_of kept ssrc = find (λ s. s.ssrc == ssrc) kept

-- One kept stream stands for one with these accepted indices, or neither is there.
abbrev pub SameStream : Option Stream → Option OuterStream → Type 0
SameStream None None = Unit {0}
SameStream None (Some s) = ⊥
SameStream (Some k) None = ⊥
SameStream (Some k) (Some s) = WindowStandsFor k.window s.accepted

-- What is kept stands for these streams: as many, and the same under each SSRC.
pub record StandsFor (kept : List Stream) (streams : List OuterStream) : Type 0 where
  pub count : length kept ≡ length streams
  pub each : (ssrc : ℕ) → SameStream (kept_of kept ssrc) (find (is_of ssrc) streams)

-- What is answered for a packet with this header that opens so, and which streams are kept and octets stand there then.
abbrev pub IsUnsealed : Header → List OuterStream → Result (ℕ × List ℕ) OuterFault → Result ℕ OuterFault → List Stream → List ℕ → Type 0
IsUnsealed h before (Err fault) result kept octets = result ≡ Err fault
IsUnsealed h before (Ok opened) result kept octets =
    (result ≡ Ok (length (spelling h ++ opened.1))) × BeginsWith (spelling h ++ opened.1) octets
    × StandsFor kept (with_index h.ssrc opened.0 before)

-- What is told of an opened datagram, and where its parts stand in the octets: the header, the inner octets and the block; 16
-- octets that aren't specified, where the outer tag stood; and the field.
pub record IsTold (told : Reached) (o : Opened) (octets : List ℕ) : Type 0 where
  pub header : take told.header octets ≡ spelling o.header
  pub header_len : told.header ≡ length (spelling o.header)
  pub inner : drop told.header (take told.block octets) ≡ o.inner
  pub block : told.ohb ≡ o.block
  pub packet : take told.len octets ≡ spelling o.header ++ o.inner ++ ohb.spelling o.block
  pub field : told.field ≡ ekt.told_of o.field (told.len + 16)
  pub field_octets : drop (told.len + 16) octets ≡ ekt.spelling o.field

-- What is told of any opened datagram is in range: there is a block, 16 octets stand behind it, and then a field.
pub record IsInRange (octets : List ℕ) (told : Reached) : Type 0 where
  pub inner : told.header ≤ told.block
  pub block : told.block < told.len
  pub len : told.len + 16 ≤ length octets
  pub pt : IfSome told.ohb.pt (λ pt. pt < 128)
  pub field : ekt.Field
  pub fits : ekt.IsField field
  pub told_is : told.field ≡ ekt.told_of field (told.len + 16)
  pub field_octets : drop (told.len + 16) octets ≡ ekt.spelling field

-- What is answered for it, and what stands in the octets then.
abbrev pub IsReach : Reach → Result Reached OuterFault → List ℕ → Type 0
IsReach (datagram.Refused fault) result octets = result ≡ Err fault
IsReach (datagram.Blocked ssrc index fault) result octets = result ≡ Err (Ohb fault)
IsReach (datagram.Reached o) result octets = (told : Reached) × (result ≡ Ok told) × IsTold told o octets

-- What stays as it was where a datagram is refused before anything is accepted.
abbrev pub KeepsWhenRefused : Result Reached OuterFault → Type 0 → Type 0
KeepsWhenRefused (Ok told) Keeps = Unit {0}
KeepsWhenRefused (Err (Ohb fault)) Keeps = Unit {0}
KeepsWhenRefused (Err fault) Keeps = Keeps
