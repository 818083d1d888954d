-- A datagram's parts make up its outcome.
use Rattle.std.proofs.Common.{◌≡◌, ℕ, Bool, true, false, cond, List, [], ◌∷◌, length, Option, Some, None, Result, Ok, Err, refl, sym, ap, subst, ◌∙◌}
use Rattle.std.specs.Prelude.{nat_lt, find, IfErr}
use Rattle.perc_rtp.specs.Header.{Header}
use Rattle.perc_contexts.specs.Receiving.{Attempt, Carried, Context, Receiving, is_live, tries}
use Rattle.perc_contexts.specs.declared.KeyLimit.{KeyLimit as NoRoom}
use Rattle.perc_window.specs.Replay.{is_too_old}
use Rattle.perc_ekt.specs.Field.{Field, Short, Full, Extension}
use Rattle.perc_ekt.specs.Key.{WrappedKey}
use Rattle.perc_ekt.specs.declared.key.KeyFault.{KeyFault}
use Rattle.perc_ekt.specs.declared.key.KeyFault.TheVariants as ekt
use Rattle.perc_outer.specs.declared.fault.OuterFault.{OuterFault}
use Rattle.perc_outer.specs.declared.fault.OuterFault.TheVariants as outer_fault
use Rattle.perc_outer.specs.declared.reaching.Reached.{Reached as Told}
use Rattle.perc_outer.specs.Datagram.{Blocked, Opened, Reach, Reached, Refused, original_header, streams_after}
use Rattle.perc_outer.specs.Kept.{KeepsWhenRefused}
use Rattle.perc_receiver.specs.declared.refusal.Refusal.{Refusal}
use Rattle.perc_receiver.specs.declared.refusal.Refusal.TheVariants as refusal
use Rattle.perc_receiver.specs.Table.{Secret}
use Rattle.perc_receiver.specs.Opener.{Opener, by_cipher}
use Rattle.perc_receiver.specs.Receiver.{Accepted, OpenTry, Receiver, carried_by, carried_key, decided, heard, heard_reach, judged, judged_carried, judged_open, judged_tries, live_of, openings, outcome, reach_of, settled, some_tries, stale}
use Rattle.perc_receiver.proofs.Taken.{decided_some, opens_fresh}
use Rattle.perc_incoming.specs.Asking.{decided_by}
use Rattle.perc_incoming.specs.declared.settling.Accepted.{Accepted as TheAccepted}
use Rattle.perc_incoming.specs.declared.choosing.Decided.{Decided}
use Rattle.perc_incoming.specs.Outcome.{IsDecision, IsInner, IsReachedAs, IsToldOf, StaysWhenRefused, after_reach, decided_carried, decision}
use Rattle.perc_incoming.proofs.Deciding.{decided_none}
use Rattle.perc_incoming.proofs.Parts.{decision_err}

-- ---- what is judged is decided but for the padding

judged_by_tries : (secrets : List Secret) (h : Header) (octets : List ℕ) (t : Result (List Attempt) Refusal)
    → judged_tries (by_cipher secrets) h octets t ≡ judged_open h (decided_by secrets h octets t)
judged_by_tries secrets h octets (Err e) = refl
judged_by_tries secrets h octets (Ok attempts) = refl

judged_by : (secrets : List Secret) (contexts : List Context) (h : Header) (octets : List ℕ) (short : Bool) (c : Result (Option Carried) Refusal)
    → cond short (Err refusal.InnerShort) (judged_carried (by_cipher secrets) contexts h octets c)
    ≡ judged_open h (cond short (Err refusal.InnerShort) (decided_carried secrets contexts h octets c))
judged_by secrets contexts h octets true c = refl
judged_by secrets contexts h octets false (Err e) = refl
judged_by secrets contexts h octets false (Ok carried) = judged_by_tries secrets h octets (some_tries (tries contexts h.ssrc h.seq carried))

pub judged_is : (r : Receiver) (o : Opened) → judged (by_cipher r.secrets) r o ≡ judged_open (original_header o) (decision r.secrets r.contexts o)
unfolding judged
judged_is r o =
    judged_by r.secrets r.contexts (original_header o) o.inner (nat_lt (length o.inner) 16) (carried_by (by_cipher r.secrets) r.secrets o.header.ssrc o.field)

-- ---- refusals behind the outer layer

abbrev IsInnerIn : {A : Type 0} → Result A Refusal → Type 0
IsInnerIn (Ok a) = Unit {0}
IsInnerIn (Err e) = IsInner e

stale_inner : (opened : List OpenTry) → IsInner (stale opened)
stale_inner [] = tt
stale_inner (o ∷ others) = by_test (is_too_old o.attempt.context.accepted o.attempt.index) where
  by_test : (old : Bool) → IsInner (cond old refusal.InnerOld refusal.InnerRepeated)
  by_test true = tt
  by_test false = tt

decided_inner : (opened : List OpenTry) (found : Option OpenTry) → find opens_fresh opened ≡ found → IsInnerIn (decided opened)
decided_inner opened (Some o) e = subst IsInnerIn (sym (decided_some opened o e)) tt
decided_inner opened None e = subst IsInnerIn (sym (decided_none opened e)) (stale_inner opened)

tried_inner : (secrets : List Secret) (h : Header) (octets : List ℕ) (t : Result (List Attempt) NoRoom) → IsInnerIn (decided_by secrets h octets (some_tries t))
tried_inner secrets h octets (Err e) = tt
tried_inner secrets h octets (Ok []) = tt
tried_inner secrets h octets (Ok (a ∷ attempts)) =
    decided_inner (openings (by_cipher secrets) h octets (a ∷ attempts)) (find opens_fresh (openings (by_cipher secrets) h octets (a ∷ attempts))) refl

key_inner : (spi ssrc : ℕ) (found : Result WrappedKey KeyFault) → IsInnerIn (carried_key spi ssrc found)
key_inner spi ssrc (Ok w) = tt
key_inner spi ssrc (Err ekt.Unwrap) = tt
key_inner spi ssrc (Err ekt.Plain) = tt

field_inner : (secrets : List Secret) (ssrc : ℕ) (field : Field) → IsInnerIn (carried_by (by_cipher secrets) secrets ssrc field)
field_inner secrets ssrc Short = tt
field_inner secrets ssrc (Extension octets kind) = tt
field_inner secrets ssrc (Full cipher spi epoch) = by_test (is_live (live_of secrets) spi) where
  by_test : (live : Bool) → IsInnerIn (cond live (carried_key spi ssrc ((by_cipher secrets).wrapped_key spi cipher)) (Err (refusal.SpiUnknown spi)))
  by_test true = key_inner spi ssrc ((by_cipher secrets).wrapped_key spi cipher)
  by_test false = tt

carried_inner : (secrets : List Secret) (contexts : List Context) (h : Header) (octets : List ℕ) (c : Result (Option Carried) Refusal) → IsInnerIn c
    → IsInnerIn (decided_carried secrets contexts h octets c)
carried_inner secrets contexts h octets (Err e) is = is
carried_inner secrets contexts h octets (Ok carried) is = tried_inner secrets h octets (tries contexts h.ssrc h.seq carried)

decision_inner : (secrets : List Secret) (contexts : List Context) (o : Opened) → IsInnerIn (decision secrets contexts o)
decision_inner secrets contexts o = by_test (nat_lt (length o.inner) 16) where
  by_test : (short : Bool)
      → IsInnerIn
      (cond short (Err refusal.InnerShort) (decided_carried secrets contexts (original_header o) o.inner (carried_by (by_cipher secrets) secrets o.header.ssrc o.field)))
  by_test true = tt
  by_test false = carried_inner secrets contexts (original_header o) o.inner (carried_by (by_cipher secrets) secrets o.header.ssrc o.field) (field_inner secrets o.header.ssrc o.field)

pub inner_stays : (e : Refusal) (Stays : Type 0) → IsInner e → StaysWhenRefused (Err e) Stays
inner_stays (refusal.Outer fault) Stays is = absurd is
inner_stays refusal.InnerShort Stays is = tt
inner_stays (refusal.SpiUnknown spi) Stays is = tt
inner_stays refusal.Unwrap Stays is = tt
inner_stays refusal.EktPlain Stays is = tt
inner_stays refusal.KeyLimit Stays is = tt
inner_stays refusal.NoContext Stays is = tt
inner_stays refusal.InnerOld Stays is = tt
inner_stays refusal.InnerRepeated Stays is = tt
inner_stays refusal.InnerTag Stays is = tt
inner_stays refusal.Padding Stays is = tt

-- A refusal that was decided stands behind the outer layer.
pub refused_inner : (held : Receiving) (ssrc : ℕ) (secrets : List Secret) (contexts : List Context) (o : Opened) (result : Result Decided Refusal) (room : List ℕ)
    → IsDecision held ssrc (decision secrets contexts o) result room → IfErr result IsInner
refused_inner held ssrc secrets contexts o (Ok decided) room is = tt
refused_inner held ssrc secrets contexts o (Err e) room is =
    subst IsInnerIn (decision_err held ssrc (decision secrets contexts o) e room is) (decision_inner secrets contexts o)

pub padding_stays : (result : Result TheAccepted Refusal) (Stays : Type 0) → IfErr result (λ e. e ≡ refusal.Padding) → StaysWhenRefused result Stays
padding_stays (Ok told) Stays is = tt
padding_stays (Err e) Stays is = subst (λ (x : Refusal). StaysWhenRefused (Err x) Stays) (sym is) tt

-- ---- the outcome

-- what becomes of a reached datagram, or of one that isn't
abbrev heard_by : Receiver → Reach → Result Accepted Refusal × Receiver
heard_by r reach =
    (heard_reach (by_cipher r.secrets) r reach, record (settled r (heard_reach (by_cipher r.secrets) r reach)) { streams = streams_after r.streams reach })

outcome_is : (r : Receiver) (datagram : List ℕ) → outcome r datagram ≡ heard_by r (reach_of r datagram)
unfolding heard
outcome_is r datagram = refl

refused_by : (r : Receiver) (reach : Reach) (fault : OuterFault) (octets : List ℕ) → IsReachedAs reach (Err fault) octets
    → heard_by r reach ≡ (Err (refusal.Outer fault), after_reach r reach)
refused_by r (Refused f) fault octets is = let same : fault ≡ f = cc in λ i. (Err (refusal.Outer (sym same i)), after_reach r (Refused f))
refused_by r (Blocked ssrc index f) fault octets is =
    let same : fault ≡ outer_fault.Ohb f = cc in λ i. (Err (refusal.Outer (sym same i)), after_reach r (Blocked ssrc index f))
refused_by r (Reached o) fault octets is = absurd is

-- It is refused in the outer layer, or for its block.
pub outcome_refused : (r : Receiver) (datagram : List ℕ) (fault : OuterFault) (octets : List ℕ) → IsReachedAs (reach_of r datagram) (Err fault) octets
    → outcome r datagram ≡ (Err (refusal.Outer fault), after_reach r (reach_of r datagram))
outcome_refused r datagram fault octets is = outcome_is r datagram ∙ refused_by r (reach_of r datagram) fault octets is

-- what was reached
pub reached_ok : (reach : Reach) (told : Told) (octets : List ℕ) → IsReachedAs reach (Ok told) octets → (o : Opened) × (reach ≡ Reached o) × IsToldOf o octets told
reached_ok (Refused f) told octets is = absurd (cc)
reached_ok (Blocked ssrc index f) told octets is = absurd (cc)
reached_ok (Reached o) told octets is = (o, refl, is)

settled_reach : (r : Receiver) (reach : Reach) (answer : Result Accepted Refusal)
    → settled (after_reach r reach) answer ≡ record (settled r answer) { streams = streams_after r.streams reach }
settled_reach r reach (Ok a) = refl
settled_reach r reach (Err e) = refl

-- It is reached, and a decision is taken.
pub outcome_decided : (r : Receiver) (datagram : List ℕ) (o : Opened) (d : Result OpenTry Refusal) → reach_of r datagram ≡ Reached o
    → decision r.secrets r.contexts o ≡ d
    → outcome r datagram ≡ (judged_open (original_header o) d, settled (after_reach r (reach_of r datagram)) (judged_open (original_header o) d))
outcome_decided r datagram o d reach is =
    let answer : heard_reach (by_cipher r.secrets) r (reach_of r datagram) ≡ judged_open (original_header o) d =
    ap (heard_reach (by_cipher r.secrets) r) reach ∙ judged_is r o ∙ ap (judged_open (original_header o)) is in
    outcome_is r datagram
    ∙ ap (λ (a : Result Accepted Refusal). (a, record (settled r a) { streams = streams_after r.streams (reach_of r datagram) })) answer
    ∙ ap (λ (x : Receiver). (judged_open (original_header o) d, x)) (sym (settled_reach r (reach_of r datagram) (judged_open (original_header o) d)))

-- Where it is refused in the outer layer but for its block, what stays as it was stays.
pub outer_stays : (fault : OuterFault) (Stays Octets : Type 0) → KeepsWhenRefused (Err fault) (Stays × Octets) → StaysWhenRefused (Err (refusal.Outer fault)) Stays
outer_stays outer_fault.NoField Stays Octets is = is.0
outer_stays outer_fault.EktType Stays Octets is = is.0
outer_stays outer_fault.EktLength Stays Octets is = is.0
outer_stays (outer_fault.Rtp f) Stays Octets is = is.0
outer_stays outer_fault.OwnStream Stays Octets is = is.0
outer_stays outer_fault.OuterShort Stays Octets is = is.0
outer_stays outer_fault.OuterOld Stays Octets is = is.0
outer_stays outer_fault.OuterRepeated Stays Octets is = is.0
outer_stays outer_fault.StreamLimit Stays Octets is = is.0
outer_stays outer_fault.OuterTag Stays Octets is = is.0
outer_stays (outer_fault.Ohb f) Stays Octets is = tt
