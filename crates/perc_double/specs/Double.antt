-- The double transform (RFC 8723 section 5): a packet sealed from end to end over its cut header, and then hop by hop, with
-- the block of originals between.
use Rattle.std.specs.Prelude.{◌≡◌, ℕ, ◌+◌, ◌^◌, ◌<◌, false, List, ◌++◌, length, nat_lt, if◌then◌else◌, Option, Some, None, Result, Ok, Err}
use Rattle.std.specs.Option.{unwrap_or}
use Rattle.perc_kdf.specs.Derivation.{KeyAndSalt}
use Rattle.perc_rtp.specs.Header.{Header, IsPacket, spelling}
use Rattle.perc_rtp.specs.Fields.{cut, with_extension}
use Rattle.perc_window.specs.Replay.{has}
use Rattle.perc_srtp.specs.Sealed.{sealed, sealed_body}
use Rattle.perc_srtp.specs.Streams.{tx_index}
use Rattle.perc_srtp.specs.declared.streams.TxFault.{TxFault}
use Rattle.perc_srtp.specs.declared.streams.TxFault.TheVariants as tx
use Rattle.perc_ohb.specs.Block as block
use Rattle.perc_ohb.specs.Block.{IsOhb}
use Rattle.perc_ohb.specs.Rewriting.{Rewrite, changed, block_after}
use Rattle.perc_ohb.specs.declared.block.Ohb.{Ohb}
use Rattle.perc_double.specs.declared.relaying.RelayFault.{RelayFault}
use Rattle.perc_double.specs.declared.relaying.RelayFault.TheVariants as relaying

-- a block that keeps nothing, as a sender's does
abbrev pub nothing_kept : Ohb
nothing_kept = record { pt = None; seq = None; marker = None }

-- the inner octets of a packet: its body sealed over its cut header, with the tag
abbrev pub inner : KeyAndSalt → ℕ → Header → List ℕ → List ℕ
inner keys index h body = sealed_body keys index (cut h) body

-- what an opened double packet has behind its header: the inner octets and the block
abbrev pub opened : List ℕ → Ohb → List ℕ
opened octets o = octets ++ block.spelling o

-- The octets are an opened packet of this header, these inner octets and this block.
pub record IsOpened (h : Header) (octets : List ℕ) (o : Ohb) (packet : List ℕ) : Type 0 where
  pub block : IsOhb o
  pub reads : IsPacket h (opened octets o) packet

-- the packet with this header, these inner octets and this block, sealed hop by hop at an index
abbrev pub double : KeyAndSalt → ℕ → Header → List ℕ → Ohb → List ℕ
double outer index h octets o = sealed outer index h (opened octets o)

-- ---- relaying

-- the header after a change, its extension too
abbrev pub relayed : Header → Rewrite → Header
relayed h c = with_extension (unwrap_or c.extension h.extension) (changed h c)

-- how many octets the relayed packet has, sealed
abbrev pub relayed_length : Header → List ℕ → Ohb → Rewrite → ℕ
relayed_length h octets o c = length (spelling (relayed h c) ++ opened octets (block_after h o c)) + 16

abbrev pub as_relayed : Result ℕ TxFault → Result ℕ RelayFault
as_relayed (Ok index) = Ok index
as_relayed (Err tx.Room) = Err relaying.Room
as_relayed (Err (tx.NoIndex seq)) = Err (relaying.NoIndex seq)
as_relayed (Err (tx.NonceUsed index)) = Err (relaying.NonceUsed index)

-- the index at which it is sealed behind these, or why it isn't relayed: a datagram has at most 1500 octets
abbrev pub relaying_index : List ℕ → Header → List ℕ → Ohb → Rewrite → Result ℕ RelayFault
relaying_index before h octets o c =
    if nat_lt 1500 (relayed_length h octets o c) then Err relaying.Room else as_relayed (tx_index before (relayed h c).seq)

-- The index that the next packet with this SEQ takes behind these: it is none of them, and below 2^48.
pub record IsNext (before : List ℕ) (seq index : ℕ) : Type 0 where
  pub taken : tx_index before seq ≡ Ok index
  pub once : has before index ≡ false
  pub in_range : index < 2 ^ 48
