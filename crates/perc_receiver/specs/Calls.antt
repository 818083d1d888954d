-- What a receiver accepts over any list of calls: secrets that it gets, and datagrams that it hears.
use Rattle.std.specs.Prelude.{◌≡◌, ℕ, ◌/◌, false, not, ◌||◌, List, [], ◌∷◌, ◌++◌, map, is_some, Option, Some, Result, Ok, Err, All, AllPairs, Contains, IsTrue}
use Rattle.std.specs.Option.{option_map_or}
use Rattle.perc_window.specs.Index.{nearest}
use Rattle.perc_window.specs.Replay.{freshness, greatest}
use Rattle.perc_window.specs.declared.window.Freshness.TheVariants.{Fresh}
use Rattle.perc_kdf.specs.Derivation.{KeyAndSalt}
use Rattle.perc_ekt.specs.Field.{Field, Short, Full, Extension}
use Rattle.perc_contexts.specs.Receiving.{Context, context_of, newest_of, is_full, is_live, spi_answer}
use Rattle.perc_contexts.specs.declared.SpiOld.{SpiOld}
use Rattle.perc_outer.specs.Datagram as outer
use Rattle.perc_outer.specs.Datagram.{Opened, original_header}
use Rattle.perc_receiver.specs.declared.refusal.Refusal.{Refusal}
use Rattle.perc_contexts.specs.History.{Acceptance, IsHistory, acceptance_of}
use Rattle.perc_receiver.specs.Table.{Secret, IsSecret, AreSecrets, Row, Wrap, Table, secret_of}
use Rattle.perc_receiver.specs.Opener.{wrap_of}
use Rattle.perc_receiver.specs.Receiver.{Receiver, Accepted, live_of, granted, outcome, reach_of, receiving}
use Rattle.perc_receiver.specs.Foreign.{is_foreign}

pub data Call : Type 0 where
  Grant : Secret → Call
  Hear : (datagram : List ℕ) → Call

-- a receiver that was just started with one secret
abbrev pub started : ℕ → KeyAndSalt → Secret → Receiver
started ssrc server s = record { ssrc = ssrc; server = server; secrets = s ∷ []; contexts = []; streams = []; rtcp = [] }

-- A secret whose SPI isn't above the latest changes nothing.
abbrev pub after_grant : Receiver → Secret → Result (Option ℕ) SpiOld → Receiver
after_grant r s (Ok _) = granted s r
after_grant r s (Err _) = r

abbrev pub after_call : Receiver → Call → Receiver
after_call r (Grant s) = after_grant r s (spi_answer (live_of r.secrets) s.spi)
after_call r (Hear datagram) = (outcome r datagram).1

-- the secrets that were ever held
abbrev pub with_grant : Secret → Result (Option ℕ) SpiOld → List Secret → List Secret
with_grant s (Ok _) secrets = secrets ++ s ∷ []
with_grant s (Err _) secrets = secrets

abbrev pub secrets_of : Receiver → List Call → List Secret → List Secret
secrets_of r [] secrets = secrets
secrets_of r (Grant s ∷ calls) secrets =
    secrets_of (after_call r (Grant s)) calls (with_grant s (spi_answer (live_of r.secrets) s.spi) secrets)
secrets_of r (Hear datagram ∷ calls) secrets = secrets_of (after_call r (Hear datagram)) calls secrets

-- what was accepted, the newest first, followed by what was before
abbrev pub with_answer : Result Accepted Refusal → List Accepted → List Accepted
with_answer (Ok a) before = a ∷ before
with_answer (Err e) before = before

abbrev pub accepts : Receiver → List Call → List Accepted → List Accepted
accepts r [] before = before
accepts r (Grant s ∷ calls) before = accepts (after_call r (Grant s)) calls before
accepts r (Hear datagram ∷ calls) before = accepts (after_call r (Hear datagram)) calls (with_answer (outcome r datagram).0 before)

-- The secrets that it gets are right, and no datagram is foreign for the table.
abbrev pub AreCalls : Table → Receiver → List Call → Type 0
AreCalls table r [] = Unit {0}
AreCalls table r (Grant s ∷ calls) = IsSecret s × AreCalls table (after_call r (Grant s)) calls
AreCalls table r (Hear datagram ∷ calls) =
    (is_foreign table r datagram ≡ false) × AreCalls table (after_call r (Hear datagram)) calls

-- ---- accepted once, as sent

-- An accepted packet is this row: under its key at its index, with its header and its payload.
pub record IsRow (row : Row) (a : Accepted) : Type 0 where
  pub spi : a.attempt.context.spi ≡ row.spi
  pub ssrc : a.attempt.context.ssrc ≡ row.ssrc
  pub key : a.attempt.context.key ≡ row.key
  pub index : a.attempt.index ≡ row.index
  pub header : a.header ≡ row.header
  pub payload : a.payload ≡ row.payload

abbrev pub IsSent : Table → Accepted → Type 0
IsSent table a = (row : Row) × Contains table.rows row × IsRow row a

-- They are of two rows, which have two SSRCs or two indices.
abbrev pub AreOthers : Accepted → Accepted → Type 0
AreOthers a b = a.attempt.context.ssrc ≡ b.attempt.context.ssrc → a.attempt.index ≡ b.attempt.index → ⊥

pub record AcceptedOnce (table : Table) (accepted : List Accepted) : Type 0 where
  pub as_sent : All (IsSent table) accepted
  pub once : AllPairs AreOthers accepted

-- ---- genuine packets

-- what was accepted under the key of a row
abbrev pub accepted_under : List Context → Row → List ℕ
accepted_under contexts row = option_map_or (λ c. c.accepted) (context_of contexts row.spi row.ssrc row.key) []

-- The wrap carries the row's key, for the ROC of its index.
pub record IsWrapFor (row : Row) (w : Wrap) : Type 0 where
  pub spi : w.spi ≡ row.spi
  pub ssrc : w.ssrc ≡ row.ssrc
  pub key : w.key ≡ row.key
  pub roc : w.roc ≡ row.index / 65536

-- The key is known. A full field carries it under a live SPI, and its context is held or there is room for it; else its
-- context is among the newest of its sender, and the row's index is the nearest there.
pub record IsCarried (table : Table) (r : Receiver) (row : Row) (cipher : List ℕ) (spi : ℕ) : Type 0 where
  pub wrap : (w : Wrap) × (wrap_of table spi cipher ≡ Some w) × IsWrapFor row w
  pub live : IsTrue (is_live (live_of r.secrets) spi)
  pub room : IsTrue (is_some (context_of r.contexts row.spi row.ssrc row.key) || not (is_full r.contexts row.spi row.ssrc))

pub record IsTried (r : Receiver) (row : Row) (c : Context) : Type 0 where
  pub newest : Contains (newest_of r.contexts row.ssrc) c
  pub held : context_of r.contexts row.spi row.ssrc row.key ≡ Some c
  pub nearest : nearest (greatest c.accepted) row.header.seq ≡ Some row.index

abbrev pub IsKeyKnown : Table → Receiver → Row → Field → Type 0
IsKeyKnown table r row Short = (c : Context) × IsTried r row c
IsKeyKnown table r row (Extension octets kind) = (c : Context) × IsTried r row c
IsKeyKnown table r row (Full cipher spi epoch) = IsCarried table r row cipher spi

-- The datagram is past the outer layer and the block; its original header and inner octets are a row's; the row's index is fresh
-- under its key; and the key is known.
pub record IsGenuine (table : Table) (r : Receiver) (datagram : List ℕ) (o : Opened) (row : Row) : Type 0 where
  pub reached : reach_of r datagram ≡ outer.Reached o
  pub sent : Contains table.rows row
  pub header : original_header o ≡ row.header
  pub inner : o.inner ≡ row.inner
  pub fresh : freshness (accepted_under r.contexts row) row.index ≡ Fresh
  pub known : IsKeyKnown table r row o.field

-- no other row has this header and these inner octets
abbrev pub IsAlone : Table → Row → Type 0
IsAlone table row = (other : Row) → Contains table.rows other → other.header ≡ row.header → other.inner ≡ row.inner → other ≡ row

-- It is accepted, as a row; as this one wherever no other has its header and inner octets.
pub record IsAcceptedAs (table : Table) (row : Row) (answer : Result Accepted Refusal) : Type 0 where
  pub accepted : (a : Accepted) × (answer ≡ Ok a) × IsSent table a × (IsAlone table row → IsRow row a)

-- ---- what is always so

-- A receiver holds some of the secrets that were issued, the live ones, and contexts under these alone.
pub record IsHolding (issued : List Secret) (r : Receiver) : Type 0 where
  pub secrets : AreSecrets r.secrets
  pub known : All (λ s. secret_of issued s.spi ≡ Some s) r.secrets
  pub live : All (λ c. IsTrue (is_live (live_of r.secrets) c.spi)) r.contexts

-- what was accepted, as its contexts tell it
abbrev pub acceptances : List Accepted → List Acceptance
acceptances accepted = map (λ a. acceptance_of a.attempt) accepted

-- A receiver's contexts agree with what it accepted so far.
abbrev pub IsConsistent : Receiver → List Accepted → Type 0
IsConsistent r accepted = IsHistory (receiving r) (acceptances accepted)
