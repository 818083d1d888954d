-- The replies of a key distributor, brought to a publisher of key sets, and what its key set has then.
use Rattle.std.specs.Prelude.{◌≡◌, ℕ, ◌<◌, List, [], ◌∷◌, ◌++◌, length, map, None, Result, Ok, Err}
use Rattle.perc_kdf.specs.Derivation.{KeyAndSalt}
use Rattle.perc_tunnel.specs.declared.message.MediaKeys as keys
use Rattle.perc_tunnel.specs.Message.{TunnelMessage, SupportedProfiles, UnsupportedVersion, MediaKeys, TunneledDtls, EndpointDisconnect}
use Rattle.perc_keyset.specs.declared.Added.{Added}
use Rattle.perc_keyset.specs.declared.AddFault.{AddFault}
use Rattle.perc_keyset.specs.declared.Entry.{Entry}
use Rattle.perc_keyset.specs.declared.Op.{Op}
use Rattle.perc_keyset.specs.Calls.{Call, AddCall, RemoveCall, after_call, after_calls}
use Rattle.perc_keyset.specs.History.{adds}
use Rattle.perc_keyset.specs.Accepting.{add_answer, most_adds}
use Rattle.perc_keyset.specs.Set.{fold_ops}
use Rattle.perc_keydist.specs.Answers.{Answers}
use Rattle.perc_keydist.specs.Distributing.{Event, Heard, Rolled, State, run_of, step}

-- ---- what is brought to the publisher

-- replies: outer keys are added
abbrev pub adds_of : List TunnelMessage → List Call
adds_of [] = []
adds_of (SupportedProfiles version profiles ∷ replies) = adds_of replies
adds_of (UnsupportedVersion highest ∷ replies) = adds_of replies
adds_of (MediaKeys association profile client server ∷ replies) = AddCall association client server ∷ adds_of replies
adds_of (TunneledDtls association octets ∷ replies) = adds_of replies
adds_of (EndpointDisconnect association ∷ replies) = adds_of replies

-- an event and the replies to it: an association that has ended is removed
abbrev pub calls_at : Event → List TunnelMessage → List Call
calls_at (Heard (SupportedProfiles version profiles)) replies = adds_of replies
calls_at (Heard (UnsupportedVersion highest)) replies = adds_of replies
calls_at (Heard (MediaKeys association profile client server)) replies = adds_of replies
calls_at (Heard (TunneledDtls association octets)) replies = adds_of replies
calls_at (Heard (EndpointDisconnect association)) replies = RemoveCall association ∷ adds_of replies
calls_at Rolled replies = adds_of replies

-- events that bring no fault, in order
abbrev pub calls_over : Answers → State → List Event → List ℕ → List Call
calls_over a s [] randoms = []
calls_over a s (event ∷ events) randoms = let t = step a s event randoms in calls_at event t.replies ++ calls_over a t.state events t.randoms

-- ---- what it answers, and what its key set has

abbrev pub IsTaken : Result Added AddFault → Type 0
IsTaken (Ok added) = Unit {0}
IsTaken (Err fault) = ⊥

-- Each add of the calls answers New or Same.
abbrev pub AreTaken : List Op → List Call → Type 0
AreTaken ops [] = Unit {0}
AreTaken ops (AddCall association client server ∷ calls) =
    IsTaken (add_answer ops association client server) × AreTaken (after_call ops (AddCall association client server)) calls
AreTaken ops (RemoveCall association ∷ calls) = AreTaken (after_call ops (RemoveCall association)) calls

-- an association with its outer pairs
pub record Party : Type 0 where
  pub association : List ℕ
  pub client : KeyAndSalt
  pub server : KeyAndSalt

abbrev pub entered : Entry → Party
entered e = record { association = e.association; client = e.client; server = e.server }

abbrev pub member : keys.MediaKeys → Party
member k = record { association = k.association; client = k.client; server = k.server }

-- The key set has exactly the members with their pairs, in order of joining.
abbrev pub HasMembers : List Op → List keys.MediaKeys → Type 0
HasMembers ops members = map entered (fold_ops ops) ≡ map member members

-- Events that bring no fault, and fewer than 65536 adds, over a keeper that has no member at first.
abbrev pub MembersAreHeld : Type 0
MembersAreHeld =
    (a : Answers) (s : State) (events : List Event) (randoms : List ℕ) → s.lists.members ≡ [] → (run_of a s events randoms).fault ≡ None
    → let calls = calls_over a s events randoms in length (adds (after_calls [] calls)) < most_adds
    → AreTaken [] calls × HasMembers (after_calls [] calls) (run_of a s events randoms).state.lists.members
