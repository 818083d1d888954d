-- The parts of what is asked behind the outer layer.
use Rattle.std.specs.Prelude.{◌≡◌, ℕ, nat_lt, if◌then◌else◌, List, length, take, Option, Some, None, find, Result, Ok, Err}
use Rattle.std.specs.Option.{ok_or, option_map}
use Rattle.perc_window.specs.declared.window.Freshness.{Freshness}
use Rattle.perc_window.specs.declared.window.Freshness.TheVariants.{Fresh, Repeated, TooOld}
use Rattle.perc_rtp.specs.Header.{Header}
use Rattle.perc_srtp.specs.Sealed.{BeginsWith, unsealed_body}
use Rattle.perc_ekt.specs.declared.key.KeyFault.{KeyFault}
use Rattle.perc_ekt.specs.declared.key.KeyFault.TheVariants as ekt
use Rattle.perc_contexts.specs.Receiving.{Attempt, Carried, Context, Receiving, freshness_of, is_live}
use Rattle.perc_contexts.specs.Kept as contexts
use Rattle.perc_contexts.specs.Kept.{AreTries, IsTry, MayCommit}
use Rattle.perc_contexts.specs.declared.Try.{Try}
use Rattle.arrayvec.specs.ArrayVec.{ArrayVec}
use Rattle.perc_outer.specs.Datagram.{Opened, original_header}
use Rattle.perc_receiver.specs.declared.refusal.Refusal.{Refusal}
use Rattle.perc_receiver.specs.declared.refusal.Refusal.TheVariants as refusal
use Rattle.perc_receiver.specs.Table.{Secret, inner_keys, secret_of}
use Rattle.perc_receiver.specs.Opener.{by_cipher, key_under}
use Rattle.perc_receiver.specs.Receiver.{Accepted, OpenTry, carried_by, carried_key, decided, is_fresh, judged_carried, live_of, openings}
use Rattle.perc_incoming.specs.declared.carried.UnwrappedKey.{UnwrappedKey}
use Rattle.perc_incoming.specs.declared.trying.Tried.{Tried}
use Rattle.perc_incoming.specs.declared.trying.Tried.TheVariants as one

-- ---- a carried key

-- why a wrapped key isn't taken
abbrev pub key_refusal : KeyFault → Refusal
key_refusal ekt.Unwrap = refusal.Unwrap
key_refusal ekt.Plain = refusal.EktPlain

-- the key that was unwrapped
abbrev pub key_of : UnwrappedKey → Carried
key_of k = record { spi = k.spi; key = take k.wrapped.len k.wrapped.key; roc = k.wrapped.roc }

-- what a wrapped key under an SPI carries for a packet with this SSRC
abbrev pub carried_under : List Secret → ℕ → ℕ → List ℕ → Result (Option Carried) Refusal
carried_under secrets ssrc spi cipher =
    if is_live (live_of secrets) spi then carried_key spi ssrc (key_under (secret_of secrets spi) cipher)
    else Err (refusal.SpiUnknown spi)

-- This was answered: the key, or none, or why it is refused.
abbrev pub IsCarriedBy : Result (Option Carried) Refusal → Result (Option UnwrappedKey) Refusal → Type 0
IsCarriedBy (Ok carried) (Ok key) = option_map key_of key ≡ carried
IsCarriedBy (Ok carried) (Err e) = ⊥
IsCarriedBy (Err e) result = result ≡ Err e

-- ---- a try

-- what inner octets open to under the key of an SPI
abbrev pub body_at : Option Secret → List ℕ → ℕ → Header → List ℕ → Option (List ℕ)
body_at None key index h octets = None
body_at (Some s) key index h octets = unsealed_body (inner_keys s key) index h octets

-- ---- the tries

-- Octets opened to this body, or to none: this was answered, and these octets stand there then.
abbrev pub IsOpened : Option (List ℕ) → Option ℕ → List ℕ → Type 0
IsOpened None result room = result ≡ None
IsOpened (Some body) result room = (result ≡ Some (length body)) × BeginsWith body room

-- what is told of a try that opens: it is fresh, with so many octets of a body, or why it isn't
abbrev pub tried_as : Freshness → ℕ → Tried
tried_as Fresh len = one.Fresh len
tried_as Repeated len = one.Stale refusal.InnerRepeated
tried_as TooOld len = one.Stale refusal.InnerOld

abbrev pub IfFresh : Tried → (ℕ → Type 0) → Type 0
IfFresh one.Shut P = Unit {0}
IfFresh (one.Fresh len) P = P len
IfFresh (one.Stale e) P = Unit {0}

-- This was told of a try, and these octets stand in the room then.
abbrev pub IsTried : Attempt → Option (List ℕ) → Tried → List ℕ → Type 0
IsTried a None result room = result ≡ one.Shut
IsTried a (Some body) result room = (result ≡ tried_as (freshness_of a) (length body)) × BeginsWith body room

-- What is decided over the tries that open, where it is known already why none before them is taken.
abbrev pub decided_after : Option Refusal → List OpenTry → Result OpenTry Refusal
decided_after None opened = decided opened
decided_after (Some e) opened = ok_or (find (λ o. is_fresh (freshness_of o.attempt)) opened) e

-- This was decided, and these octets stand in the room then.
abbrev pub IsDecided : List Context → ℕ → Option Carried → Result OpenTry Refusal → Result (Try × ℕ) Refusal → List ℕ → Type 0
IsDecided contexts ssrc carried (Ok o) (Ok t) room = IsTry contexts ssrc carried t.0 o.attempt × (t.1 ≡ length o.body) × BeginsWith o.body room
IsDecided contexts ssrc carried (Ok o) (Err e) room = ⊥
IsDecided contexts ssrc carried (Err e) result room = result ≡ Err e

-- These tries were answered, or why there are none.
abbrev pub AreSome : List Context → ℕ → Option Carried → Result (List Attempt) Refusal → Result (ArrayVec Try) Refusal → Type 0
AreSome contexts ssrc carried (Ok attempts) (Ok list) = AreTries contexts ssrc carried list.items attempts
AreSome contexts ssrc carried (Ok attempts) (Err e) = ⊥
AreSome contexts ssrc carried (Err e) result = result ≡ Err e

-- The tries are some, in what is held.
pub record CanTry (kept : contexts.Kept) (carried : Option Carried) (list : List Try) : Type 0 where
  pub held : Receiving
  pub ssrc : ℕ
  pub attempts : List Attempt
  pub stands : contexts.StandsFor kept held
  pub are : AreTries held.contexts ssrc carried list attempts

-- what is decided over some tries, or why there are none
abbrev pub decided_by : List Secret → Header → List ℕ → Result (List Attempt) Refusal → Result OpenTry Refusal
decided_by secrets h octets (Err e) = Err e
decided_by secrets h octets (Ok attempts) = decided (openings (by_cipher secrets) h octets attempts)

-- This was decided, these octets stand in the room then, and the try may be committed.
abbrev pub MayTake : Receiving → ℕ → Option Carried → Result OpenTry Refusal → Result (Try × ℕ) Refusal → List ℕ → Type 0
MayTake held ssrc carried (Ok o) (Ok t) room = MayCommit held ssrc carried t.0 o.attempt × (t.1 ≡ length o.body) × BeginsWith o.body room
MayTake held ssrc carried (Ok o) (Err e) room = ⊥
MayTake held ssrc carried (Err e) result room = result ≡ Err e

-- ---- all that is asked

-- what is made of an opened datagram under these secrets and contexts
abbrev pub asked : List Secret → List Context → Opened → Result Accepted Refusal
asked secrets contexts o =
    if nat_lt (length o.inner) 16 then Err refusal.InnerShort
    else judged_carried (by_cipher secrets) contexts (original_header o) o.inner (carried_by (by_cipher secrets) secrets o.header.ssrc o.field)
