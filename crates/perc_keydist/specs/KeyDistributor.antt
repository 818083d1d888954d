-- A key distributor, and what its calls do, over definitions of streams and of what is done with messages.
use Rattle.std.specs.List.{flat_map, All}
use Rattle.std.specs.Prelude.{◌≡◌, ℕ, ◌+◌, List, ◌++◌, length, map, Option, Some, None, IfSome, Result, Ok, Err}
use Rattle.perc_base.specs.declared.profile.Profile.{Profile}
use Rattle.perc_ekt.specs.declared.record.EktKeyRecord.{EktKeyRecord}
use Rattle.perc_tunnel.specs.declared.decoder.TunnelFault.{TunnelFault}
use Rattle.perc_tunnel.specs.Decoding.{Decoding, fresh}
use Rattle.perc_tunnel.specs.Message.{TunnelMessage, IsMessage, spelling}
use Rattle.perc_tunnel.specs.Stream.{HasReason, IsFaultyAt, IsPart, IsStream}
use Rattle.perc_keeper.specs.Lists.{Lists, newest}
use Rattle.perc_keydist.specs.declared.fault.KdFault.{KdFault}
use Rattle.perc_keydist.specs.declared.fault.KdFault.TheVariants as fault
use Rattle.perc_keydist.specs.Answers.{Answers}
use Rattle.perc_keydist.specs.Causes.{told_as}
use Rattle.perc_keydist.specs.Desks.{IsDone, IsRefused}
use Rattle.perc_keydist.specs.Feeding.{IsEnded}
use Rattle.perc_keydist.specs.Distributing.{Heard, Rolled, State, Turn, run_of, step}

-- the conference's profile, the profiles that were accepted, the decoder of the stream, and the fault after which it goes no further
pub record KeyDistributor : Type 0 where
  pub profile : Profile
  pub accepted : Option (List ℕ)
  pub decoding : Decoding
  pub fault : Option KdFault

-- one to which nothing was fed
abbrev pub anew : Profile → KeyDistributor
anew profile = record { profile = profile; accepted = None; decoding = fresh; fault = None }

-- how many octets of its stream it took
abbrev pub octets_taken : KeyDistributor → ℕ
octets_taken k = k.decoding.given + length k.decoding.held

-- As long as there is no fault the decoder has none, and holds a part of a message.
abbrev pub IsReady : Option KdFault → Decoding → Type 0
IsReady None decoding = (decoding.fault ≡ None) × IsPart decoding.held
IsReady (Some f) decoding = Unit {0}

-- its state before a call, where this is kept
abbrev pub state_of : KeyDistributor → Lists → State
state_of k l = record { profile = k.profile; accepted = k.accepted; lists = l; left = 0 }

-- what it does with these messages, and where the EKT key is rolled
abbrev pub heard : Answers → KeyDistributor → Lists → List TunnelMessage → List ℕ → Turn
heard a k l messages randoms = run_of a (state_of k l) (map Heard messages) randoms

abbrev pub rolled : Answers → KeyDistributor → Lists → List ℕ → Turn
rolled a k l randoms = step a (state_of k l) Rolled randoms

-- ---- a feed

-- All octets were taken: the stream is these messages, followed by a part of one that is held now.
pub record IsTaken (k : KeyDistributor) (octets : List ℕ) (messages : List TunnelMessage) (now : KeyDistributor) : Type 0 where
  pub no_fault : now.fault ≡ None
  pub stream : IsStream messages now.decoding.held (k.decoding.held ++ octets)
  pub given : now.decoding.given ≡ k.decoding.given + length (flat_map spelling messages)
  pub decodes : now.decoding.fault ≡ None

-- The stream goes wrong behind these messages, where the fault says and for its reason.
pub record GoesWrong (k : KeyDistributor) (octets : List ℕ) (messages : List TunnelMessage) (f : TunnelFault) : Type 0 where
  pub rest : List ℕ
  pub wrong : IsFaultyAt (length (flat_map spelling messages)) messages rest (k.decoding.held ++ octets)
  pub offset : f.offset ≡ k.decoding.given + length (flat_map spelling messages)
  pub reason : HasReason rest f.reason

-- The stream begins with these messages.
pub record Begins (k : KeyDistributor) (octets : List ℕ) (messages : List TunnelMessage) : Type 0 where
  pub each : All IsMessage messages
  pub rest : List ℕ
  pub spelled : k.decoding.held ++ octets ≡ flat_map spelling messages ++ rest

-- A feed ended with this fault behind these messages.
abbrev pub EndsAt : KeyDistributor → List ℕ → List TunnelMessage → KdFault → Type 0
EndsAt k octets messages (fault.Tunnel f) = GoesWrong k octets messages f
EndsAt k octets messages (fault.Order type) = Begins k octets messages
EndsAt k octets messages fault.SpiSpent = Begins k octets messages
EndsAt k octets messages fault.KeyRepeated = Begins k octets messages
EndsAt k octets messages fault.Keeper = Begins k octets messages
EndsAt k octets messages fault.Handshake = Begins k octets messages
EndsAt k octets messages fault.Random = Begins k octets messages
EndsAt k octets messages fault.Memory = Begins k octets messages

-- These messages were read of what was fed.
abbrev pub Takes : KeyDistributor → List ℕ → List TunnelMessage → Result ℕ KdFault → KeyDistributor → Type 0
Takes k octets messages (Ok left) now = IsTaken k octets messages now
Takes k octets messages (Err e) now = (now.fault ≡ Some e) × EndsAt k octets messages e

-- What the turn says was done, by which so many have left; or its replies stand, and it brought this fault, or none where the fault
-- is one of the stream or of the outside. Where an object of the outside failed or memory is out, nothing more is said.
abbrev pub Replies : Turn → Result ℕ KdFault → List ℕ → List ℕ → Option (List ℕ) → Option Lists → Option (List ℕ) → Type 0
Replies t (Ok left) before after accepted lists randoms = IsDone t before after accepted lists randoms left
Replies t (Err e) before after accepted lists randoms = IsEnded t e before after lists randoms

-- Octets were fed: messages were read of the stream, and done as the definition says, where the outside tells what it holds.
abbrev pub FeedsSo : KeyDistributor → List ℕ → Result ℕ KdFault → KeyDistributor → Option Answers → Option Lists → Option Lists → Option (List ℕ) → Option (List ℕ)
    → List ℕ → List ℕ → Type 0
FeedsSo k octets result now answers lists kept randoms rest before after =
    (messages : List TunnelMessage) × Takes k octets messages result now
    × ((a : Answers) (l : Lists) (drawn : List ℕ) → answers ≡ Some a → lists ≡ Some l → randoms ≡ Some drawn
    → Replies (heard a k l messages drawn) result before after now.accepted kept rest)

-- ---- a roll

-- The next EKT key was issued, which is the newest, and each member was sent it.
pub record IsRolled (t : Turn) (r : EktKeyRecord) (before after : List ℕ) (lists : Option Lists) (randoms : Option (List ℕ)) : Type 0 where
  pub no_fault : t.fault ≡ None
  pub issued : newest t.state.lists.issued ≡ Some r
  pub replied : after ≡ before ++ flat_map spelling t.replies
  pub keeps : lists ≡ Some t.state.lists
  pub draws : randoms ≡ Some t.randoms

-- The turn was done, or it brought this fault. Where an object of the outside failed or memory is out, nothing is said.
abbrev pub Rolls : Turn → Result EktKeyRecord KdFault → List ℕ → List ℕ → Option Lists → Option (List ℕ) → Type 0
Rolls t (Ok r) before after lists randoms = IsRolled t r before after lists randoms
Rolls t (Err e) before after lists randoms = IfSome (told_as e) (λ f. IsRefused t f lists randoms)

-- ---- behind a fault

-- A call answers the fault of an earlier one, and changes nothing.
pub record HasStopped {X K H R : Type 0} (k : KeyDistributor) (f : KdFault) (result : Result X KdFault) (now : KeyDistributor) (keeper keeper_now : K) (hand hand_now : H)
    (randoms randoms_now : R) (before after : List ℕ) : Type 0 where
  pub answer : result ≡ Err f
  pub same : now ≡ k
  pub keeper_same : keeper_now ≡ keeper
  pub hand_same : hand_now ≡ hand
  pub randoms_same : randoms_now ≡ randoms
  pub out_same : after ≡ before
