-- How the code of a conference stands for a state of the definition, and what its calls do.
use Rattle.std.specs.BTreeMap as tree
use Rattle.std.specs.BTreeMap.{BTreeMap}
use Rattle.std.specs.Cmp.Lexicographic.{slice_cmp}
use Rattle.std.specs.List.{list_any}
use Rattle.std.specs.Ordering.{nat_cmp}
use Rattle.std.specs.Prelude.{IfSome, ◌≡◌, ℕ, ◌+◌, ◌-◌, List, [], ◌++◌, length, replicate, is_some, true, false, Bool, None, Result, Ok, Err, count_by}
use Rattle.std.specs.Str.{bytes_eq}
use Rattle.perc_base.specs.Profile.{key_length}
use Rattle.perc_conference_state.specs.declared.conference.Conference as code
use Rattle.perc_conference_state.specs.declared.conference.Stop.TheVariants as stop
use Rattle.perc_conference_state.specs.declared.conference.Stop.{Stop}
use Rattle.perc_conference_state.specs.declared.conference.Told.{Told}
use Rattle.perc_conference_state.specs.Keys.{MirrorsKeys}
use Rattle.perc_forwarder.specs.Mirror.{MirrorsDistributor}
use Rattle.perc_member.specs.Each.{MirrorsMember, MirrorEach, MirrorsDatagram}
use Rattle.perc_report_line.specs.Report.{Report, WireUp, WireMade, WireReseal, WireDown, RefuseMedia, Accept, Refuse, report_texts}
use Rattle.perc_run.specs.Sound.{IsOrderly}
use Rattle.perc_run.specs.State.{State, Turn, Goes, Refused, Halts}
use Rattle.perc_sent.specs.Sent.{MirrorsRecords, MirrorsSent}

-- the octets of a key, and zeros behind those of one of 16
abbrev pub padded : List ℕ → List ℕ
padded key = key ++ replicate (32 - length key) 0

abbrev pub is_issued : BTreeMap (List ℕ) ℕ → List ℕ → Bool
is_issued issued key = is_some (tree.get (slice_cmp nat_cmp) issued (padded key))

-- The issued keys are found, among keys of the profile's length; before the head there are none.
pub record MirrorsIssued (c : code.Conference) (s : State) : Type 0 where
  pub found : IfSome s.profile (λ profile. (key : List ℕ) → length key ≡ key_length profile
      → is_issued c.issued key ≡ list_any (λ x. bytes_eq x.key key) s.secrets)
  pub none : s.profile ≡ None → (key : List ℕ) → is_issued c.issued key ≡ false

pub record Mirrors (c : code.Conference) (s : State) : Type 0 where
  pub profile : c.profile ≡ s.profile
  pub issued : MirrorsIssued c s
  pub members : MirrorEach MirrorsMember c.members.items s.members
  pub distributor : MirrorsDistributor c.distributor s
  pub keys : MirrorsKeys c s s.profile c.keys
  pub datagrams : MirrorEach MirrorsDatagram c.datagrams.items s.datagrams
  pub records : IfSome s.profile (λ profile. MirrorsRecords profile c.records.items s.secrets)
  pub none : s.profile ≡ None → c.records.items ≡ []
  pub sent : MirrorsSent c.members.items s

abbrev pub is_wire : Report → Bool
is_wire (WireUp datagram name octets) = true
is_wire (WireMade datagram octets) = true
is_wire (WireReseal datagram name octets) = true
is_wire (WireDown datagram name octets) = true
is_wire line = false

abbrev pub is_accept : Report → Bool
is_accept (Accept a) = true
is_accept line = false

abbrev pub is_refuse : Report → Bool
is_refuse (RefuseMedia datagram reason) = true
is_refuse (Refuse datagram name reason) = true
is_refuse line = false

-- how many of each kind there are
abbrev pub told_of : List Report → Told
told_of lines = record { datagrams = count_by is_wire lines; accepted = count_by is_accept lines; refused = count_by is_refuse lines }

-- these and others
abbrev pub all_told : Told → Told → Told
all_told a b = record { datagrams = a.datagrams + b.datagrams; accepted = a.accepted + b.accepted; refused = a.refused + b.refused }

-- A call did what the definition says: it appended the report to the text and left the state, or refused the line for the reason, or
-- came to the foreign datagram. Where no memory was found nothing is said.
abbrev pub Does : Turn → Result Told Stop → (before after : List ℕ) → code.Conference → Type 0
Does turn (Err stop.Memory) before after c = Unit {0}
Does (Goes lines next) (Ok told) before after c = (after ≡ before ++ report_texts lines) × (told ≡ told_of lines) × Mirrors c next
Does (Goes lines next) (Err (stop.Refused given)) before after c = ⊥
Does (Goes lines next) (Err (stop.Foreign name)) before after c = ⊥
Does (Refused reason) (Ok told) before after c = ⊥
Does (Refused reason) (Err (stop.Refused given)) before after c = given ≡ reason
Does (Refused reason) (Err (stop.Foreign name)) before after c = ⊥
Does (Halts name) (Ok told) before after c = ⊥
Does (Halts name) (Err (stop.Refused given)) before after c = ⊥
Does (Halts name) (Err (stop.Foreign given)) before after c = given ≡ name

-- It stands for some state.
abbrev pub IsRunning : code.Conference → Type 0
IsRunning c = (s : State) × IsOrderly s × Mirrors c s
