-- What a key distributor keeps of one conference (RFC 8870, RFC 9185), and what the calls of a keeper ask of it and change.
use Rattle.std.specs.List.{list_any}
use Rattle.std.specs.Option.{option_map}
use Rattle.std.specs.Prelude.{◌≡◌, ℕ, ◌<◌, ◌≤◌, Bool, false, not, nat_lt, if◌then◌else◌, List, [], ◌∷◌, ◌++◌, filter, find, map, take, Option, Some, None, IfSome, Result, IfErr, IfOk, OnOk, OnErr}
use Rattle.std.specs.Str.{bytes_eq}
use Rattle.perc_base.specs.Outside.{HasRisen}
use Rattle.perc_kdf.specs.Derivation.{KeyAndSalt}
use Rattle.perc_kdf.specs.Order.{same_pair}
use Rattle.perc_ekt.specs.declared.record.EktKeyRecord.{EktKeyRecord}
use Rattle.perc_tunnel.specs.declared.message.MediaKeys.{MediaKeys}
use Rattle.perc_tunnel.specs.Message.{HasLengths}
use Rattle.perc_tunnel.specs.Told.{keys_message}
use Rattle.perc_keeper.specs.declared.keeper.KeepFault.{KeepFault}
use Rattle.perc_keeper.specs.declared.keeper.KeepFault.TheVariants as fault

-- the records of EKT keys that were issued, the outer pairs that were ever given, and the members with their keys in order of
-- joining
pub record Lists : Type 0 where
  pub issued : List EktKeyRecord
  pub given : List KeyAndSalt
  pub members : List MediaKeys

-- before anything was kept
abbrev pub nothing : Lists
nothing = record { issued = []; given = []; members = [] }

-- ---- what is asked

-- the one with the higher SPI
abbrev pub higher : EktKeyRecord → Option EktKeyRecord → Option EktKeyRecord
higher r None = Some r
higher r (Some s) = if nat_lt s.spi r.spi then Some r else Some s

-- the record with the highest SPI
abbrev pub newest : List EktKeyRecord → Option EktKeyRecord
newest [] = None
newest (r ∷ records) = higher r (newest records)

-- the octets of a record's key
abbrev pub key_of : EktKeyRecord → List ℕ
key_of r = take r.len r.key

-- the SPI under which a key was issued
abbrev pub spi_of : List EktKeyRecord → List ℕ → Option ℕ
spi_of records key = option_map (λ r. r.spi) (find (λ r. bytes_eq (key_of r) key) records)

abbrev pub was_given : List KeyAndSalt → KeyAndSalt → Bool
was_given given pair = list_any (same_pair pair) given

abbrev pub is_of : List ℕ → MediaKeys → Bool
is_of association keys = bytes_eq keys.association association

abbrev pub member_of : List MediaKeys → List ℕ → Option MediaKeys
member_of members association = find (is_of association) members

abbrev pub is_member : List MediaKeys → List ℕ → Bool
is_member members association = list_any (is_of association) members

abbrev pub names_of : List MediaKeys → List (List ℕ)
names_of members = map (λ keys. keys.association) members

-- ---- what is changed

abbrev pub with_issued : EktKeyRecord → Lists → Lists
with_issued r l = record l { issued = l.issued ++ r ∷ [] }

-- a member joins: its pairs are given for good
abbrev pub with_member : MediaKeys → Lists → Lists
with_member keys l = record l { given = l.given ++ keys.client ∷ keys.server ∷ []; members = l.members ++ keys ∷ [] }

abbrev pub without : List ℕ → List MediaKeys → List MediaKeys
without association members = filter (λ keys. not (is_of association keys)) members

-- a member leaves: its pairs stay given
abbrev pub without_member : List ℕ → Lists → Lists
without_member association l = record l { members = without association l.members }

-- The keys have the length of their profile.
abbrev pub HasKeys : MediaKeys → Type 0
HasKeys keys = HasLengths (keys_message keys)

-- The record may be issued: its SPI is above all, and its key is new.
pub record MayIssue (r : EktKeyRecord) (l : Lists) : Type 0 where
  pub above : IfSome (newest l.issued) (λ s. s.spi < r.spi)
  pub unused : spi_of l.issued (key_of r) ≡ None

-- The member may join: it is none yet, and its pairs differ and were never given.
pub record MayJoin (keys : MediaKeys) (l : Lists) : Type 0 where
  pub stranger : is_member l.members keys.association ≡ false
  pub apart : same_pair keys.client keys.server ≡ false
  pub client : was_given l.given keys.client ≡ false
  pub server : was_given l.given keys.server ≡ false

-- ---- what a call does, where the lists are told

-- the answer is this of the lists
abbrev pub Answers : {X : Type 0} → Option Lists → (Lists → X) → Result X KeepFault → Type 0
Answers told f result = IfOk result (λ x. IfSome told (λ l. x ≡ f l))

-- the lists were changed so, or stay after a refusal
abbrev pub Changes : {X : Type 0} → Option Lists → (Lists → Lists) → Result X KeepFault → Option Lists → Type 0
Changes before f result after = OnOk result (after ≡ option_map f before) × OnErr result (after ≡ before)

-- A fault's count: it never falls, and rises with each failure.
abbrev pub Counts : {X : Type 0} → ℕ → Result X KeepFault → ℕ → Type 0
Counts before result now = (before ≤ now) × IfErr result (λ e. e ≡ fault.Failed → HasRisen before now)
