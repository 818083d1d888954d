-- What happens to a receiver over any list of calls: SPIs are added, and packets accepted by fresh tries.
use Rattle.std.specs.Prelude.{◌≡◌, ℕ, ◌%◌, ◌<◌, ◌≤◌, ◌≢◌, ◌⊎◌, Bool, List, [], ◌∷◌, Option, Result, Ok, Err, All, AllPairs, Contains, MatchResult, IfSome, MatchOption, IsTrue, map, filter}
use Rattle.std.specs.List.Sorted.{IsStrictlyIncreasing}
use Rattle.perc_window.specs.declared.window.Freshness.TheVariants.{Fresh}
use Rattle.perc_contexts.specs.declared.SpiOld.{SpiOld}
use Rattle.perc_contexts.specs.Receiving.{Context, Receiving, Carried, Attempt, tries, committed, renewed, spi_answer, freshness_of, is_live, latest, is_of}

-- a call: an SPI is added, or a packet with this SSRC that carried this key is accepted by a try
pub data Call : Type 0 where
  Renew : (spi : ℕ) → Call
  Commit : (ssrc : ℕ) → (carried : Option Carried) → Attempt → Call

-- A packet is accepted by a fresh one of its tries; a carried key's SPI is live.
pub record IsCommit (held : Receiving) (ssrc : ℕ) (carried : Option Carried) (attempt : Attempt) : Type 0 where
  pub live : IfSome carried (λ c. IsTrue (is_live held.live c.spi))
  pub tried : MatchResult (tries held.contexts ssrc (attempt.index % 65536) carried) (λ attempts. Contains attempts attempt) (λ _. ⊥)
  pub fresh : freshness_of attempt ≡ Fresh

abbrev pub IsCall : Receiving → Call → Type 0
IsCall held (Renew spi) = Unit {0}
IsCall held (Commit ssrc carried attempt) = IsCommit held ssrc carried attempt

-- what a receiver holds after a call; an SPI that isn't above the latest changes nothing
abbrev pub after_renewal : Receiving → ℕ → Result (Option ℕ) SpiOld → Receiving
after_renewal held spi (Ok retired) = renewed spi held
after_renewal held spi (Err old) = held

abbrev pub after_call : Receiving → Call → Receiving
after_call held (Renew spi) = after_renewal held spi (spi_answer held.live spi)
after_call held (Commit ssrc carried attempt) = record held { contexts = committed attempt held.contexts }

abbrev pub after_calls : Receiving → List Call → Receiving
after_calls held [] = held
after_calls held (call ∷ calls) = after_calls (after_call held call) calls

-- Each of the calls may be made behind those before it.
abbrev pub AreCalls : Receiving → List Call → Type 0
AreCalls held [] = Unit {0}
AreCalls held (call ∷ calls) = IsCall held call × AreCalls (after_call held call) calls

-- what was accepted: an index under a key of a sender under an SPI
pub record Acceptance : Type 0 where
  pub spi : ℕ
  pub ssrc : ℕ
  pub key : List ℕ
  pub index : ℕ

abbrev pub acceptance_of : Attempt → Acceptance
acceptance_of a = record { spi = a.context.spi; ssrc = a.context.ssrc; key = a.context.key; index = a.index }

-- what the calls accepted, the newest first, followed by what was accepted before
abbrev pub accepted_by : List Call → List Acceptance → List Acceptance
accepted_by [] before = before
accepted_by (Renew spi ∷ calls) before = accepted_by calls before
accepted_by (Commit ssrc carried attempt ∷ calls) before = accepted_by calls (acceptance_of attempt ∷ before)

-- the indices of these that were accepted under a context
abbrev pub is_under : Context → Acceptance → Bool
is_under c a = is_of a.spi a.ssrc a.key c

abbrev pub indices_under : Context → List Acceptance → List ℕ
indices_under c done = map (λ a. a.index) (filter (is_under c) done)

-- it is one key of one sender under one SPI
abbrev pub SameContext : Context → Context → Type 0
SameContext c d = IsTrue (is_of c.spi c.ssrc c.key d)

-- What is always so of a receiver, behind what was accepted so far.
pub record IsHistory (held : Receiving) (done : List Acceptance) : Type 0 where
  -- The live SPIs rise.
  pub rising : IsStrictlyIncreasing held.live
  -- A context goes only with its SPI: those that are held have live ones.
  pub live : All (λ c. IsTrue (is_live held.live c.spi)) held.contexts
  -- A context isn't installed twice.
  pub distinct : AllPairs (λ c d. SameContext c d → ⊥) held.contexts
  -- The accepted set of a live context is exactly what was accepted under it since it was installed, and before that nothing was.
  pub accepted : All (λ c. c.accepted ≡ indices_under c done) held.contexts
  -- What was accepted under an SPI that is live still has its context.
  pub kept : All (λ a. IsTrue (is_live held.live a.spi) → (c : Context) × Contains held.contexts c × IsTrue (is_under c a)) done
  -- No index was accepted twice under a context, even one that is gone.
  pub once : AllPairs (λ a b. a ≢ b) done
  -- Everything was accepted under an SPI that isn't above the latest. There is a latest then.
  pub past : All (λ a. MatchOption (latest held.live) ⊥ (λ last. a.spi ≤ last)) done

-- An SPI that is live after some calls was live before them, or was above the latest then. So one that isn't live and isn't
-- above the latest never becomes live again.
abbrev pub NeverAgain : Receiving → List Call → Type 0
NeverAgain held calls =
    (spi : ℕ) → IsTrue (is_live (after_calls held calls).live spi) → IsTrue (is_live held.live spi) ⊎ IfSome (latest held.live) (λ last. last < spi)
