-- How the code finds what was sent: rows by their SSRC and index, and wraps by what they open to.
use Rattle.std.specs.Option.{option_map_or}
use Rattle.std.specs.Prelude.{◌≡◌, ℕ, ◌+◌, List, Option, Some, None, slice_get, ◌≤◌, map, ◌-◌, Bool, false, ◌&&◌, All, Contains, IsTrue}
use Rattle.std.specs.Str.{bytes_eq}
use Rattle.perc_base.specs.Profile.{key_length}
use Rattle.perc_base.specs.declared.profile.Profile.{Profile}
use Rattle.perc_ekt.specs.Record.{IsRecord}
use Rattle.perc_ekt.specs.declared.record.EktKeyRecord.{EktKeyRecord}
use Rattle.perc_member.specs.Each.{MirrorsMember, MirrorEach, MirrorsDatagram}
use Rattle.perc_member.specs.Taken.{number_at, sent_under, wrapped_under}
use Rattle.perc_member.specs.declared.member.Member as code_member
use Rattle.perc_receiver.specs.Opener.{same_header}
use Rattle.perc_receiver.specs.Table.{Row, secret_in, Secret, Wrap}
use Rattle.perc_rtp.specs.Fields.{cut}
use Rattle.perc_rtp.specs.Header.{Header}
use Rattle.perc_run.specs.Sound.{IsOrderly}
use Rattle.perc_run.specs.State.{Datagram, State, datagram_at, Unsealed}
use Rattle.perc_sent.specs.declared.table.Sent.{Sent}
use Rattle.perc_sent.specs.declared.table.Table as code

-- The datagram is that of the row: its header without an extension, and its inner octets.
pub record IsPacketOf (row : Row) (u : Unsealed) : Type 0 where
  pub header : cut u.header ≡ row.header
  pub inner : u.inner ≡ row.inner

abbrev pub IsUnsealedOf : Row → Option Unsealed → Type 0
IsUnsealedOf row None = ⊥
IsUnsealedOf row (Some u) = IsPacketOf row u

abbrev pub HasPacketOf : Row → Option Datagram → Type 0
HasPacketOf row None = ⊥
HasPacketOf row (Some d) = IsUnsealedOf row d.unsealed

-- a datagram has this header without an extension, and these inner octets
abbrev pub is_packet : Header → List ℕ → Unsealed → Bool
is_packet h octets u = same_header (cut u.header) h && bytes_eq u.inner octets

abbrev pub is_packet_of : Option Datagram → Header → List ℕ → Bool
is_packet_of None h octets = false
is_packet_of (Some d) h octets = option_map_or (is_packet h octets) d.unsealed false

-- a member of the code has this row: at the place of its index is the number of its datagram, and it went out under its key
pub record IsSentBy (s : State) (c : code_member.Member) (row : Row) : Type 0 where
  pub ssrc : c.ssrc ≡ row.ssrc
  pub sender : c.name ≡ row.sender
  pub from : c.first ≤ row.index
  pub number : slice_get c.sends.items (row.index - c.first) ≡ Some row.datagram
  pub key : IsTrue (sent_under c row.spi row.key row.index)
  pub packet : HasPacketOf row (datagram_at s.datagrams row.datagram)

pub record IsWrappedBy (c : code_member.Member) (w : Wrap) : Type 0 where
  pub ssrc : c.ssrc ≡ w.ssrc
  pub key : IsTrue (wrapped_under c w.spi w.key w.roc)

pub record IsSomebodys {X : Type 0} (members : List code_member.Member) (P : code_member.Member → X → Type 0) (x : X) : Type 0 where
  pub member : code_member.Member
  pub there : Contains members member
  pub is : P member x

-- What a member has is a row: of its SSRC, at that index, under that key.
pub record HasRow (s : State) (c : code_member.Member) (spi : ℕ) (key : List ℕ) (index : ℕ) : Type 0 where
  pub row : Row
  pub there : Contains s.table.rows row
  pub ssrc : row.ssrc ≡ c.ssrc
  pub spi_is : row.spi ≡ spi
  pub key_is : row.key ≡ key
  pub index_is : row.index ≡ index

pub record HasWrap (s : State) (c : code_member.Member) (spi : ℕ) (key : List ℕ) (roc : ℕ) : Type 0 where
  pub wrap : Wrap
  pub there : Contains s.table.wraps wrap
  pub ssrc : wrap.ssrc ≡ c.ssrc
  pub spi_is : wrap.spi ≡ spi
  pub key_is : wrap.key ≡ key
  pub roc_is : wrap.roc ≡ roc

-- Each number that a member has is that of a row: of its SSRC, at that index.
pub record HasRowAt (s : State) (c : code_member.Member) (index : ℕ) : Type 0 where
  pub row : Row
  pub there : Contains s.table.rows row
  pub ssrc : row.ssrc ≡ c.ssrc
  pub index_is : row.index ≡ index

abbrev pub HasRows : State → code_member.Member → Type 0
HasRows s c = (spi : ℕ) (key : List ℕ) (index : ℕ) → IsTrue (sent_under c spi key index) → HasRow s c spi key index

abbrev pub HasWraps : State → code_member.Member → Type 0
HasWraps s c = (spi : ℕ) (key : List ℕ) (roc : ℕ) → IsTrue (wrapped_under c spi key roc) → HasWrap s c spi key roc

abbrev pub HasNumbers : State → code_member.Member → Type 0
HasNumbers s c = (index number : ℕ) → number_at c index ≡ Some number → HasRowAt s c index

-- what was issued: right records, of keys of the profile's length; the n-th has the SPI n
pub record MirrorsRecords (profile : Profile) (records : List EktKeyRecord) (secrets : List Secret) : Type 0 where
  pub secrets_are : map secret_in records ≡ secrets
  pub right : All IsRecord records
  pub size : All (λ r. r.len ≡ key_length profile) records
  pub spis : (k : ℕ) (r : EktKeyRecord) → slice_get records k ≡ Some r → r.spi ≡ k + 1

-- Each row and each wrap is found at a member of the code, and nothing else is.
pub record MirrorsSent (members : List code_member.Member) (s : State) : Type 0 where
  pub rows : All (IsSomebodys members (IsSentBy s)) s.table.rows
  pub wraps : All (IsSomebodys members IsWrappedBy) s.table.wraps
  pub only_rows : All (HasRows s) members
  pub only_wraps : All (HasWraps s) members
  pub only_numbers : All (HasNumbers s) members

-- what the code reads the table from
pub record MirrorsTable (c : code.Table) (s : State) : Type 0 where
  pub records : MirrorsRecords c.profile c.records.now s.secrets
  pub members : MirrorEach MirrorsMember c.members.now s.members
  pub datagrams : MirrorEach MirrorsDatagram c.datagrams.now s.datagrams
  pub sent : MirrorsSent c.members.now s
  pub orderly : IsOrderly s

-- It stands for what was sent in some conference.
abbrev pub IsTable : code.Table → Type 0
IsTable c = (s : State) × MirrorsTable c s

-- whose packet this row is
abbrev pub IsSentAs : Option Row → Option Sent → Type 0
IsSentAs None result = result ≡ None
IsSentAs (Some row) None = ⊥
IsSentAs (Some row) (Some sent) = (sent.sender ≡ row.sender) × (sent.datagram ≡ row.datagram)
