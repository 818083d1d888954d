-- What the code keeps of a receiver, with windows in the place of sets, and what it stands for.
use Rattle.std.specs.Prelude.{◌≡◌, ℕ, ◌%◌, ◌≤◌, ◌<◌, ◌^◌, ◌⊎◌, Bool, ◌==◌, ◌&&◌, if◌then◌else◌, IsTrue, List, [], ◌∷◌, length, Option, Some, None, Result, Ok, Err, AllPairs, Contains, MatchResult, IfSome, slice_get}
use Rattle.std.specs.Borrow.{Bor}
use Rattle.std.specs.Str.{bytes_eq}
use Rattle.std.specs.Option.{option_map, is_some}
use Rattle.perc_window.specs.Replay.{Marks, StandsFor as WindowStandsFor}
use Rattle.perc_window.specs.declared.window.Freshness.{Freshness}
use Rattle.perc_window.specs.declared.window.Freshness.TheVariants.{Fresh}
use Rattle.perc_contexts.specs.Receiving.{most_contexts, is_live, context_of, Context, Receiving, Carried, Attempt, new_context, tries, freshness_of, committed}
use Rattle.perc_contexts.specs.declared.TryPlace.{TryPlace}
use Rattle.perc_contexts.specs.declared.TryPlace.TheVariants.{Held, New}
use Rattle.perc_contexts.specs.declared.Try.{Try}
use Rattle.perc_contexts.specs.declared.KeyLimit.{KeyLimit}
use Rattle.perc_contexts.specs.declared.CarriedKey.{CarriedKey}
use Rattle.arrayvec.specs.ArrayVec.{ArrayVec}

-- a context with its window
pub record KeptContext : Type 0 where
  pub spi : ℕ
  pub ssrc : ℕ
  pub key : List ℕ
  pub window : Marks

-- the live SPIs, rising, and the contexts in the order of their installing
pub record Kept : Type 0 where
  pub live : List ℕ
  pub contexts : List KeptContext

-- A kept context stands for a context with these accepted indices.
pub record IsOf (kept : KeptContext) (c : Context) : Type 0 where
  pub spi : kept.spi ≡ c.spi
  pub ssrc : kept.ssrc ≡ c.ssrc
  pub key : kept.key ≡ c.key
  pub window : WindowStandsFor kept.window c.accepted

-- it is kept for this key of this sender under this SPI
abbrev pub is_kept_of : ℕ → ℕ → List ℕ → KeptContext → Bool
is_kept_of spi ssrc key k = k.spi == spi && k.ssrc == ssrc && bytes_eq k.key key

-- it is kept for the same key of the same sender under the same SPI
abbrev pub SameKept : KeptContext → KeptContext → Type 0
SameKept j k = IsTrue (is_kept_of j.spi j.ssrc j.key k)

-- None is kept twice, and there is room for as many as may be.
pub record IsWellKept (contexts : List KeptContext) (room : ℕ) : Type 0 where
  pub few : length contexts ≤ most_contexts
  pub room_is : most_contexts ≤ room
  pub distinct : AllPairs (λ j k. SameKept j k → ⊥) contexts

-- Each of the kept contexts stands for the one in its place.
abbrev pub AreOf : List KeptContext → List Context → Type 0
AreOf [] [] = Unit {0}
AreOf [] (c ∷ contexts) = ⊥
AreOf (k ∷ kept) [] = ⊥
AreOf (k ∷ kept) (c ∷ contexts) = IsOf k c × AreOf kept contexts

-- What is kept stands for what a receiver holds.
pub record StandsFor (kept : Kept) (held : Receiving) : Type 0 where
  pub live : kept.live ≡ held.live
  pub contexts : AreOf kept.contexts held.contexts

-- ---- tries by the places of their contexts

-- the carried key that the code is given
abbrev pub told_of : CarriedKey → Carried
told_of c = record { spi = c.spi; key = c.key.now; roc = c.roc }

abbrev pub told : Option (Bor CarriedKey) → Option Carried
told carried = option_map (λ c. told_of c.now) carried

-- A carried key has 16 or 32 octets, and its SPI is live.
pub record IsCarriedKey (live : List ℕ) (c : Carried) : Type 0 where
  pub live_is : IsTrue (is_live live c.spi)
  pub length_is : (length c.key ≡ 16) ⊎ (length c.key ≡ 32)

abbrev pub IsCarried : List ℕ → Option Carried → Type 0
IsCarried live carried = IfSome carried (IsCarriedKey live)

-- the new context of a carried key, where it has none
abbrev pub new_of : List Context → ℕ → Carried → Option Context
new_of contexts ssrc carried =
    if is_some (context_of contexts carried.spi ssrc carried.key) then None else Some (new_context ssrc carried)

-- the context that a try names: a held one by its place in the order of installing, or the new one of the carried key
abbrev pub context_at : List Context → ℕ → Option Carried → TryPlace → Option Context
context_at contexts ssrc carried (Held place) = slice_get contexts place
context_at contexts ssrc None New = None
context_at contexts ssrc (Some c) New = new_of contexts ssrc c

-- The code's try is this one.
pub record IsTry (contexts : List Context) (ssrc : ℕ) (carried : Option Carried) (try : Try) (attempt : Attempt) : Type 0 where
  pub context : context_at contexts ssrc carried try.place ≡ Some attempt.context
  pub index : try.index ≡ attempt.index
  pub in_range : try.index < 2 ^ 48

-- The code's tries are these, one for one.
abbrev pub AreTries : List Context → ℕ → Option Carried → List Try → List Attempt → Type 0
AreTries contexts ssrc carried [] [] = Unit {0}
AreTries contexts ssrc carried [] (a ∷ attempts) = ⊥
AreTries contexts ssrc carried (t ∷ list) [] = ⊥
AreTries contexts ssrc carried (t ∷ list) (a ∷ attempts) =
    IsTry contexts ssrc carried t a × AreTries contexts ssrc carried list attempts

-- The code answers with these tries, or refuses as they are refused.
abbrev pub IsAnswer : List Context → ℕ → Option Carried → Result (List Attempt) KeyLimit → Result (ArrayVec Try) KeyLimit → Type 0
IsAnswer contexts ssrc carried (Ok attempts) (Ok list) = AreTries contexts ssrc carried list.items attempts
IsAnswer contexts ssrc carried (Ok attempts) (Err e) = ⊥
IsAnswer contexts ssrc carried (Err e) (Ok list) = ⊥
IsAnswer contexts ssrc carried (Err e) (Err f) = Unit {0}

-- where a context is to be held at the place of a try, one is
abbrev pub IsPlace : List KeptContext → TryPlace → Type 0
IsPlace contexts (Held place) = place < length contexts
IsPlace contexts New = Unit {0}

-- A try may be committed: it is fresh, and is one of the tries for its SSRC, the SEQ of its index and the carried key.
pub record MayCommit (held : Receiving) (ssrc : ℕ) (carried : Option Carried) (try : Try) (attempt : Attempt) : Type 0 where
  pub is_try : IsTry held.contexts ssrc carried try attempt
  pub tried : MatchResult (tries held.contexts ssrc (attempt.index % 65536) carried) (λ attempts. Contains attempts attempt) (λ _. ⊥)
  pub fresh : freshness_of attempt ≡ Fresh

-- It may, in what is held.
pub record CanCommit (kept : Kept) (ssrc : ℕ) (carried : Option Carried) (try : Try) : Type 0 where
  pub held : Receiving
  pub attempt : Attempt
  pub stands : StandsFor kept held
  pub may : MayCommit held ssrc carried try attempt

-- ---- what the calls say, for whatever is held

-- These are the tries of a packet with this SSRC and this SEQ, or its refusal.
abbrev pub AnswersTries : Kept → ℕ → ℕ → Option Carried → Result (ArrayVec Try) KeyLimit → Type 0
AnswersTries kept ssrc seq carried answer =
    (held : Receiving) → StandsFor kept held → IsAnswer held.contexts ssrc carried (tries held.contexts ssrc seq carried) answer

-- This is the SPI and the key of the context at a place.
abbrev pub IsKeyAt : Kept → ℕ → ℕ → List ℕ → Type 0
IsKeyAt kept place spi key =
    (held : Receiving) → StandsFor kept held → IfSome (slice_get held.contexts place) (λ c. (spi ≡ c.spi) × (key ≡ c.key))

-- This is what the context of a try says to its index.
abbrev pub TellsFreshness : Kept → Try → Freshness → Type 0
TellsFreshness kept try says =
    (held : Receiving) (ssrc : ℕ) (carried : Option Carried) (a : Attempt) → StandsFor kept held → IsTry held.contexts ssrc carried try a
    → says ≡ freshness_of a

-- A packet was accepted by a try.
abbrev pub Commits : Kept → ℕ → Option Carried → Try → Kept → Type 0
Commits before ssrc carried try after =
    (held : Receiving) (a : Attempt) → StandsFor before held → IsTry held.contexts ssrc carried try a
    → StandsFor after (record held { contexts = committed a held.contexts })
