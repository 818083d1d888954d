-- What a conference is while its script runs: its members, the distributor, what was sent, and the datagrams on the wire.
use Rattle.std.specs.Prelude.{ℕ, ◌-◌, Bool, ◌==◌, ◌&&◌, if◌then◌else◌, List, [], ◌∷◌, ◌++◌, length, map, filter, find, Option, Some, None, slice_get}
use Rattle.std.specs.Option.{option_map_or}
use Rattle.std.specs.Str.{bytes_eq}
use Rattle.perc_base.specs.declared.profile.Profile.{Profile}
use Rattle.perc_kdf.specs.Derivation.{KeyAndSalt}
use Rattle.perc_rtp.specs.Header.{Header}
use Rattle.perc_ohb.specs.declared.block.Ohb.{Ohb}
use Rattle.perc_ekt.specs.Field.{Field}
use Rattle.perc_keyset.specs.declared.Entry.{Entry}
use Rattle.perc_receiver.specs.Table.{Secret, Table}
use Rattle.perc_endpoint.specs.Endpoint.{Endpoint}
use Rattle.perc_distributor.specs.Inbound.{Heard}
use Rattle.perc_distributor.specs.Forwarding.{Sealing}
use Rattle.perc_script_line.specs.declared.reason.Reason.{Reason}
use Rattle.perc_script_line.specs.declared.reason.Reason.TheVariants.{Name}
use Rattle.perc_report_line.specs.Report.{Report}

-- the limits: members at once, members ever, datagrams of a script, SPIs, and the line that none may pass
abbrev pub most_members : ℕ
most_members = 64

abbrev pub most_joins : ℕ
most_joins = 256

abbrev pub most_datagrams : ℕ
most_datagrams = 131072

abbrev pub most_spis : ℕ
most_spis = 65535

abbrev pub last_line : ℕ
last_line = 4294967295

-- a media packet as it was before its outer seal, and the field behind it
pub record Unsealed : Type 0 where
  pub header : Header
  pub inner : List ℕ
  pub block : Ohb
  pub field : Field

-- a datagram on the wire; of media that a member or the distributor sealed, also what was sealed
pub record Datagram : Type 0 where
  pub octets : List ℕ
  pub unsealed : Option Unsealed

-- A member, present or not: its name, its association, its SSRC, its outer pairs and its endpoint. The pair `client` is for what it
-- sends to the distributor, `server` for what it gets from there.
pub record Member : Type 0 where
  pub name : List ℕ
  pub association : List ℕ
  pub ssrc : ℕ
  pub client : KeyAndSalt
  pub server : KeyAndSalt
  pub endpoint : Endpoint
  pub present : Bool

pub record State : Type 0 where
  -- none before the head
  pub profile : Option Profile
  -- the records of EKT keys that were issued: the n-th has the SPI n
  pub secrets : List Secret
  -- all that ever joined, in the order of joining
  pub members : List Member
  -- the distributor: its key set, what it opened, and what its worker sealed
  pub set : List Entry
  pub heard : List Heard
  pub sealing : List Sealing
  -- what was sent
  pub table : Table
  -- the n-th is datagram n
  pub datagrams : List Datagram

-- before the first line
abbrev pub nobody : State
nobody = record {
  profile = None;
  secrets = [];
  members = [];
  set = [];
  heard = [];
  sealing = [];
  table = record { rows = []; wraps = [] };
  datagrams = [];
}

-- What a line does: it reports these lines and leaves this state; or it is refused; or a datagram is foreign at the member of this
-- name, and the run ends.
pub data Turn : Type 0 where
  Goes : (lines : List Report) (state : State) → Turn
  Refused : (reason : Reason) → Turn
  Halts : (name : List ℕ) → Turn

-- ---- members

abbrev pub has_name : List ℕ → Member → Bool
has_name name m = bytes_eq name m.name

abbrev pub is_present : List ℕ → Member → Bool
is_present name m = m.present && has_name name m

-- the member of this name that is present
abbrev pub member_named : List ℕ → State → Option Member
member_named name s = find (is_present name) s.members

abbrev pub present_members : State → List Member
present_members s = filter (λ m. m.present) s.members

-- the members, with a change at the one of this name
abbrev pub with_member : List ℕ → (Member → Member) → List Member → List Member
with_member name change members = map (λ m. if has_name name m then change m else m) members

-- ---- datagrams

-- the datagram of a number, from 1
abbrev pub datagram_at : List Datagram → ℕ → Option Datagram
datagram_at datagrams number = if number == 0 then None else slice_get datagrams (number - 1)

-- ---- turns

-- what is done with the member of this name, or that nobody has it
abbrev pub at_member : State → List ℕ → (Member → Turn) → Turn
at_member s name goes = option_map_or goes (member_named name s) (Refused Name)
