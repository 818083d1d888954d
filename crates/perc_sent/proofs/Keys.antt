-- The tries of a datagram that open, beside the keys that are told of them.
use Rattle.std.proofs.Common.{◌≡◌, ℕ, zero, suc, ◌<◌, ◌≤◌, Bool, true, false, cond, ◌||◌, List, [], ◌∷◌, length, drop, filter, get_or, Option, Result, Ok, Err, refl, sym, ap, ◌∙◌, arith}
use Rattle.std.specs.Prelude.{nat_lt}
use Rattle.std.specs.List.{AllByRecursion, list_any}
use Rattle.perc_contexts.specs.Receiving.{Attempt, Carried, tries}
use Rattle.perc_contexts.specs.declared.KeyLimit.{KeyLimit}
use Rattle.perc_incoming.specs.Opening.{AreOpenKeys, IsOpenKey, open_tries, opens}
use Rattle.perc_incoming.specs.declared.inquiry.OpenKey.{OpenKey}
use Rattle.perc_outer.specs.Datagram.{Opened, original_header}
use Rattle.perc_receiver.specs.Foreign.{tries_or_none, tries_reached, tries_with}
use Rattle.perc_receiver.specs.Opener.{by_cipher}
use Rattle.perc_receiver.specs.Receiver.{Receiver, carried_by, some_tries}
use Rattle.perc_receiver.specs.declared.refusal.Refusal.{Refusal}
use Rattle.perc_receiver.proofs.Tried.{IsTriedUnder, all_tried}
use Rattle.perc_rtp.specs.Header.{Header}

-- ---- by their places

-- the try of the key in a place
pub record IsOpenAt (P : Attempt → Type 0) (attempts : List Attempt) (place : ℕ) (k : OpenKey) : Type 0 where
  pub attempt : Attempt
  pub at : drop place attempts ≡ attempt ∷ drop (suc place) attempts
  pub is : IsOpenKey attempt k
  pub has : P attempt

pub open_at : (P : Attempt → Type 0) (attempts : List Attempt) (keys : List OpenKey) (place : ℕ) (d : OpenKey) → AreOpenKeys attempts keys
    → AllByRecursion P attempts → place < length keys → IsOpenAt P attempts place (get_or keys place d)
open_at P [] [] place d are all within = absurd (omega arith)
open_at P [] (k ∷ keys) place d are all within = absurd are
open_at P (a ∷ attempts) [] place d are all within = absurd are
open_at P (a ∷ attempts) (k ∷ keys) zero d are all within = record { attempt = a; at = refl; is = are.0; has = all.0 }
open_at P (a ∷ attempts) (k ∷ keys) (suc place) d are all within =
    let it = open_at P attempts keys place d are.1 all.1 (omega arith) in
    record { attempt = it.attempt; at = it.at; is = it.is; has = it.has }

-- Behind the keys there are no tries.
pub open_end : (attempts : List Attempt) (keys : List OpenKey) (place : ℕ) → AreOpenKeys attempts keys → length keys ≤ place → drop place attempts ≡ []
open_end [] [] zero are past = refl
open_end [] [] (suc place) are past = refl
open_end [] (k ∷ keys) place are past = absurd are
open_end (a ∷ attempts) [] place are past = absurd are
open_end (a ∷ attempts) (k ∷ keys) zero are past = absurd (omega arith)
open_end (a ∷ attempts) (k ∷ keys) (suc place) are past = open_end attempts keys place are.1 (omega arith)

-- ---- one of them, and the others

-- One that passes settles the answer.
pub any_here : (test : Attempt → Bool) (xs others : List Attempt) (a : Attempt) (b : Bool) → list_any test xs ≡ b → xs ≡ a ∷ others → test a ≡ true → b ≡ true
any_here test xs others a b is at passes = sym is ∙ ap (list_any test) at ∙ ap (λ (x : Bool). x || list_any test others) passes

-- One that doesn't leaves it to the others.
pub any_later : (test : Attempt → Bool) (xs others : List Attempt) (a : Attempt) → xs ≡ a ∷ others → test a ≡ false → list_any test xs ≡ list_any test others
any_later test xs others a at fails = ap (list_any test) at ∙ ap (λ (x : Bool). x || list_any test others) fails

-- ---- of whom they are

-- a try is under a context of this SSRC
abbrev pub IsOf : ℕ → Attempt → Type 0
IsOf ssrc a = a.context.ssrc ≡ ssrc

all_filtered : (P : Attempt → Type 0) (test : Attempt → Bool) (attempts : List Attempt) → AllByRecursion P attempts → AllByRecursion P (filter test attempts)
all_filtered P test [] all = tt
all_filtered P test (a ∷ attempts) all = by (test a) (all_filtered P test attempts all.1) where
  by : (b : Bool) → AllByRecursion P (filter test attempts) → AllByRecursion P (cond b (a ∷ filter test attempts) (filter test attempts))
  by true rest = (all.0, rest)
  by false rest = rest

senders : (r : Receiver) (h : Header) (carried : Option Carried) (attempts : List Attempt) → AllByRecursion (IsTriedUnder r.contexts h.ssrc carried) attempts
    → AllByRecursion (IsOf h.ssrc) attempts
senders r h carried [] all = tt
senders r h carried (a ∷ attempts) all = (all.0.sender, senders r h carried attempts all.1)

-- the tries under a carried key, or under none
tries_some : (r : Receiver) (h : Header) (carried : Option Carried) (t : Result (List Attempt) KeyLimit) → tries r.contexts h.ssrc h.seq carried ≡ t
    → AllByRecursion (IsOf h.ssrc) (tries_or_none (some_tries t))
tries_some r h carried (Err f) e = tt
tries_some r h carried (Ok []) e = tt
tries_some r h carried (Ok (a ∷ attempts)) e = senders r h carried (a ∷ attempts) (all_tried r.contexts h.ssrc h.seq carried (a ∷ attempts) e)

its_tries : (r : Receiver) (h : Header) (c : Result (Option Carried) Refusal) → AllByRecursion (IsOf h.ssrc) (tries_with r h c)
its_tries r h (Err e) = tt
its_tries r h (Ok carried) = tries_some r h carried (tries r.contexts h.ssrc h.seq carried) refl

-- Each try of a datagram is under a context of its sender.
pub tries_of : (r : Receiver) (o : Opened) → AllByRecursion (IsOf o.header.ssrc) (open_tries r o)
tries_of r o = all_filtered (IsOf o.header.ssrc) (opens r.secrets (original_header o) o.inner) (tries_reached r o) (by (nat_lt (length o.inner) 16)) where
  all : AllByRecursion (IsOf o.header.ssrc) (tries_with r (original_header o) (carried_by (by_cipher r.secrets) r.secrets o.header.ssrc o.field))
  all = its_tries r (original_header o) (carried_by (by_cipher r.secrets) r.secrets o.header.ssrc o.field)

  by : (b : Bool) → AllByRecursion (IsOf o.header.ssrc) (cond b [] (tries_with r (original_header o) (carried_by (by_cipher r.secrets) r.secrets o.header.ssrc o.field)))
  by true = tt
  by false = all
