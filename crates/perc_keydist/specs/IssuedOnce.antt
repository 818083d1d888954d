-- That no key and no SPI is issued twice and no outer pair given twice, over any events, and over any key distributors one
-- after another that go on from what is kept.
use Rattle.std.specs.List.{All, AllPairs, Contains}
use Rattle.std.specs.Prelude.{◌≡◌, ◌≢◌, ◌<◌, ◌⊎◌, ℕ, List, [], ◌∷◌, ◌++◌}
use Rattle.perc_kdf.specs.Derivation.{KeyAndSalt}
use Rattle.perc_ekt.specs.declared.record.EktKeyRecord.{EktKeyRecord}
use Rattle.perc_tunnel.specs.declared.message.MediaKeys as keys
use Rattle.perc_tunnel.specs.Message.{TunnelMessage, SupportedProfiles, UnsupportedVersion, MediaKeys, TunneledDtls, EndpointDisconnect}
use Rattle.perc_keeper.specs.Lists.{Lists, key_of}
use Rattle.perc_keydist.specs.Answers.{Answers}
use Rattle.perc_keydist.specs.Distributing.{Event, State, Turn, run_of}

-- what a record is to a later one: its SPI is lower, and its key is another
pub record IsBefore (r s : EktKeyRecord) : Type 0 where
  pub spi : r.spi < s.spi
  pub key : key_of r ≢ key_of s

-- The SPIs rise, so each names one key; no key was issued twice, and no pair given twice.
pub record IsOnce (l : Lists) : Type 0 where
  pub rising : AllPairs IsBefore l.issued
  pub apart : AllPairs (λ p q. p ≢ q) l.given

-- What was issued and given before stands still, in front of what came later.
pub record Extends (before after : Lists) : Type 0 where
  pub issued : List EktKeyRecord
  pub given : List KeyAndSalt
  pub issued_is : after.issued ≡ before.issued ++ issued
  pub given_is : after.given ≡ before.given ++ given

-- A record that is sent was made for an EKT key that is kept.
abbrev pub IsBacked : Answers → List EktKeyRecord → TunnelMessage → Type 0
IsBacked a issued (TunneledDtls association octets) =
    (r : EktKeyRecord) × Contains issued r × (((k : keys.MediaKeys) × (octets ≡ a.welcome k r)) ⊎ (octets ≡ a.renewal r))
IsBacked a issued (SupportedProfiles version profiles) = Unit {0}
IsBacked a issued (UnsupportedVersion highest) = Unit {0}
IsBacked a issued (MediaKeys association profile client server) = Unit {0}
IsBacked a issued (EndpointDisconnect association) = Unit {0}

-- what is always so of what any events leave
pub record IsSafe (a : Answers) (before : Lists) (t : Turn) : Type 0 where
  pub once : IsOnce t.state.lists
  pub extends : Extends before t.state.lists
  pub backed : All (IsBacked a t.state.lists.issued) t.replies

abbrev pub EventsAreSafe : Type 0
EventsAreSafe =
    (a : Answers) (s : State) (events : List Event) (randoms : List ℕ) → IsOnce s.lists → IsSafe a s.lists (run_of a s events randoms)

-- ---- key distributors one after another

-- what one of them does: from a state but for what is kept, with a handshake and randoms, the events
pub record Run : Type 0 where
  pub answers : Answers
  pub state : State
  pub events : List Event
  pub randoms : List ℕ

-- what is kept behind a run, and behind runs, each of which goes on from what is kept then
abbrev pub kept_by : Lists → Run → Lists
kept_by l r = (run_of r.answers (record r.state { lists = l }) r.events r.randoms).state.lists

abbrev pub kept_after : Lists → List Run → Lists
kept_after l [] = l
kept_after l (r ∷ runs) = kept_after (kept_by l r) runs

abbrev pub RunsAreSafe : Type 0
RunsAreSafe = (l : Lists) (runs : List Run) → IsOnce l → IsOnce (kept_after l runs) × Extends l (kept_after l runs)
