-- What is always so while a script runs.
use Rattle.std.specs.Prelude.{if◌then◌else◌, ◌≡◌, ◌≢◌, ℕ, ◌+◌, ◌<◌, ◌≤◌, List, [], ◌∷◌, length, Option, Some, None, All, AllPairs, Contains, slice_get}
use Rattle.byteorder.specs.Endian.{big_bytes}
use Rattle.perc_base.specs.declared.profile.Profile.{Profile}
use Rattle.perc_base.specs.Profile.{key_length}
use Rattle.perc_keyset.specs.declared.Entry.{Entry}
use Rattle.perc_receiver.specs.Table.{IsRight, IsSecret, Row, Secret, Table, secret_of}
use Rattle.perc_outgoing.specs.Sending.{IsSending}
use Rattle.perc_run.specs.State.{State, Member, most_datagrams, most_joins, most_spis}
use Rattle.perc_run.specs.Joining.{newest}

-- what a report's worth rests on: the profile, the secrets, the members, the table, and how many datagrams were made
pub record Core : Type 0 where
  pub profile : Option Profile
  pub secrets : List Secret
  pub members : List Member
  pub table : Table
  pub made : ℕ

abbrev pub core_of : State → Core
core_of s = record { profile = s.profile; secrets = s.secrets; members = s.members; table = s.table; made = length s.datagrams }

-- Two members have other names and other SSRCs.
pub record AreOthers (m n : Member) : Type 0 where
  pub name : m.name ≢ n.name
  pub ssrc : m.ssrc ≢ n.ssrc

-- the member is one of these, and this is so of it
pub record IsSomebody (members : List Member) (P : Member → Type 0) : Type 0 where
  pub member : Member
  pub there : Contains members member
  pub is : P member

-- The secrets have keys of the profile's length; before the head there are none.
abbrev pub KeysFit : Option Profile → List Secret → Type 0
KeysFit None secrets = secrets ≡ []
KeysFit (Some profile) secrets = All (λ (s : Secret). length s.key ≡ key_length profile) secrets

-- Secrets are right; their SPIs go from 1 to their number; and the newest is that of its SPI.
pub record AreIssued (secrets : List Secret) : Type 0 where
  pub right : All IsSecret secrets
  pub below : All (λ (s : Secret). s.spi ≤ length secrets) secrets
  pub last : (s : Secret) → newest secrets ≡ Some s → secret_of secrets s.spi ≡ Some s

-- A row of a member's stream has an index before the member's next.
abbrev pub IsBefore : Member → Row → Type 0
IsBefore m row = row.ssrc ≡ m.ssrc → row.index < m.endpoint.sending.sending.next

-- A member sends under its own SSRC, under a secret that was issued. Its first index is below 65536, its first RTCP index is 0, and each
-- packet is a datagram.
pub record IsMember (secrets : List Secret) (table : Table) (made : ℕ) (m : Member) : Type 0 where
  pub sending : IsSending m.endpoint.sending
  pub sender : m.endpoint.sending.sending.ssrc ≡ m.ssrc
  pub secret : secret_of secrets m.endpoint.sending.secret.spi ≡ Some m.endpoint.sending.secret
  pub few : m.endpoint.sending.sending.next ≤ 65535 + made
  pub few_control : m.endpoint.sending.rtcp ≤ made
  pub before : All (IsBefore m) table.rows

abbrev pub IsOfMember : List Member → Row → Type 0
IsOfMember members row = IsSomebody members (λ m. row.ssrc ≡ m.ssrc)

abbrev pub AreOtherDatagrams : Row → Row → Type 0
AreOtherDatagrams a b = a.datagram ≢ b.datagram

-- The secrets that were issued are right, and the table is right for them; names and SSRCs differ; each row is of somebody who joined,
-- at an index before its next; and rows have other datagrams.
pub record IsSound (c : Core) : Type 0 where
  pub fits : KeysFit c.profile c.secrets
  pub issued : AreIssued c.secrets
  pub table : IsRight c.secrets c.table
  pub others : AllPairs AreOthers c.members
  pub members : All (IsMember c.secrets c.table c.made) c.members
  pub joined : All (IsOfMember c.members) c.table.rows
  pub datagrams : AllPairs AreOtherDatagrams c.table.rows
  pub made : All (λ (row : Row). row.datagram ≤ c.made) c.table.rows

-- ---- of a whole state

-- Each member is of the head's profile; before the head there are none.
abbrev pub AreOfProfile : Option Profile → List Member → Type 0
AreOfProfile None members = members ≡ []
AreOfProfile (Some profile) members = All (λ (m : Member). m.endpoint.profile ≡ profile) members

-- the entries of the members that are present, in the order of joining; a member's serial is how many joined before it
abbrev pub entries_from : ℕ → List Member → List Entry
entries_from serial [] = []
entries_from serial (m ∷ members) =
    if m.present then record { association = m.association; serial = serial; client = m.client; server = m.server } ∷ entries_from (serial + 1) members
    else entries_from (serial + 1) members

-- Besides, each member sends under its client pair; its association is its number, from 1; the key set has the members that are present;
-- and the limits are kept.
pub record IsOrderly (s : State) : Type 0 where
  pub sound : IsSound (core_of s)
  pub profiles : AreOfProfile s.profile s.members
  pub clients : All (λ (m : Member). m.endpoint.sending.client ≡ m.client) s.members
  pub associations : (place : ℕ) (m : Member) → slice_get s.members place ≡ Some m → m.association ≡ big_bytes 16 (place + 1)
  pub entries : s.set ≡ entries_from 0 s.members
  pub few_spis : length s.secrets ≤ most_spis
  pub few_members : length s.members ≤ most_joins
  pub few_datagrams : length s.datagrams ≤ most_datagrams
