-- What a batch gives to one entry of a set.
use Rattle.std.proofs.Common.{◌≡◌, ◌≢◌, ℕ, ◌+◌, ◌%◌, Bool, true, false, cond, not, List, [], ◌∷◌, ◌++◌, Option, None, Result, Ok, Err, inl, inr, refl, sym, ap, subst, ◌∙◌, arith}
use Rattle.std.specs.Prelude.{◌==◌, ◌&&◌, All, Contains, filter, find}
use Rattle.std.specs.Str.{bytes_eq}
use Rattle.std.specs.Option.{unwrap_or}
use Rattle.std.proofs.lemmas.Bool.Decides.{nat_tests}
use Rattle.std.proofs.lemmas.List.Elements.{All-contains, All-filter, All-head, All-tail, All-weaker, filter-append}
use Rattle.std.proofs.lemmas.Slice.Eq.{bytes_eq-Decides}
use Rattle.perc_ohb.specs.Rewriting.{Rewrite}
use Rattle.perc_ohb.specs.declared.block.Ohb.{Ohb}
use Rattle.perc_ekt.specs.Field.{Field}
use Rattle.perc_rtp.specs.Header.{Header}
use Rattle.perc_keyset.specs.Set.{is_of}
use Rattle.perc_keyset.specs.declared.Entry.{Entry}
use Rattle.perc_keyset.proofs.Lists.{Contains-cons_cases}
use Rattle.perc_distributor.specs.declared.fault.ForwardFault.{ForwardFault}
use Rattle.perc_distributor.specs.Inbound.{Control, Media, Packet, in_set}
use Rattle.perc_distributor.specs.Forwarding.{Sealing, Sent, is_named, is_owned, media_index, media_step, nothing_sealed, recipients, sealing_of, sent_each, sent_from, sent_media, sent_to, source_of, with_sealing}
use Rattle.perc_distributor.specs.Parts.{control_place}
use Rattle.perc_distributor.proofs.PlaceLaws.{find_filter}
use Rattle.perc_distributor.proofs.Sending.{control_by, sent_by}
use Rattle.perc_distributor.proofs.SendingOn.{of_serial, sent_serial, with_found, with_past}
use Rattle.perc_forwarding.specs.Shares.{AreApart, AreOnce, GiveTheSame, outputs_to, to_of}

-- ---- whose an output is

media_to : (s : Sealing) (e : Entry) (place : ℕ) (change : Rewrite) (h : Header) (inner : List ℕ) (block : Ohb) (field : Field) (at : Result ℕ ForwardFault)
    → to_of (sent_media s e place change h inner block field at).0 ≡ e.association
media_to s e place change h inner block field (Ok at) = refl
media_to s e place change h inner block field (Err f) = refl

control_to : (s : Sealing) (e : Entry) (place : ℕ) (octets : List ℕ) (at : Result ℕ ForwardFault) → to_of (sent_by s e place octets at).0 ≡ e.association
control_to s e place octets (Ok at) = refl
control_to s e place octets (Err f) = refl

pub sent_is_to : (s : Sealing) (e : Entry) (place : ℕ) (change : Rewrite) (packet : Packet) → to_of (sent_to s e place change packet).0 ≡ e.association
sent_is_to s e place change (Media from h inner block field) = media_to s e place change h inner block field (media_index s.streams h inner block field change)
sent_is_to s e place change (Control from octets) =
    ap (λ (step : Sent × Sealing). to_of step.0) (control_by s e place octets) ∙ control_to s e place octets (control_place s.rtcp octets)

same_name : (a b : List ℕ) → a ≡ b → bytes_eq a b ≡ true
same_name a b is = (bytes_eq-Decides a b).1 is

cases_true : (b : Bool) → (b ≡ true → ⊥) → b ≡ false
cases_true true deny = absurd (deny refl)
cases_true false deny = refl

pub other_name : (a b : List ℕ) → a ≢ b → bytes_eq a b ≡ false
other_name a b apart = cases_true (bytes_eq a b) (λ is. apart ((bytes_eq-Decides a b).0 is))

-- ---- what is kept

pub kept_with : (sealing : List Sealing) (new : Sealing) (serial : ℕ) → serial ≡ new.serial → sealing_of (with_sealing new sealing) serial ≡ new
kept_with sealing new serial is = ap (λ (x : Option Sealing). unwrap_or x (nothing_sealed serial)) (with_found sealing new serial is)

pub kept_past : (sealing : List Sealing) (new : Sealing) (serial : ℕ) → (serial ≡ new.serial → ⊥) → sealing_of (with_sealing new sealing) serial ≡ sealing_of sealing serial
kept_past sealing new serial other = ap (λ (x : Option Sealing). unwrap_or x (nothing_sealed serial)) (with_past sealing new serial other)

pub kept_in : (set : List Entry) (sealing : List Sealing) (serial : ℕ) → in_set set serial ≡ true → sealing_of (filter (λ x. in_set set x.serial) sealing) serial ≡ sealing_of sealing serial
kept_in set sealing serial member =
    ap (λ (x : Option Sealing). unwrap_or x (nothing_sealed serial))
    (find_filter (λ (x : Sealing). x.serial) (in_set set) sealing serial ∙ ap (λ (b : Bool). cond b (find (λ x. x.serial == serial) sealing) None) member)

pub step_serial : (sealing : List Sealing) (e : Entry) (place : ℕ) (change : Rewrite) (packet : Packet) → (sent_to (sealing_of sealing e.serial) e place change packet).1.serial ≡ e.serial
step_serial sealing e place change packet = sent_serial (sealing_of sealing e.serial) e place change packet ∙ of_serial sealing e.serial

-- ---- a packet

-- the same for one entry
abbrev pub one_of : Entry → ℕ → Rewrite → Packet → Bool → Sealing → List Sent × Sealing
one_of e place change packet true s = ((sent_to s e place change packet).0 ∷ [], (sent_to s e place change packet).1)
one_of e place change packet false s = ([], s)

pub record Gives (e : Entry) (step : List Sent × List Sealing) (one : List Sent × Sealing) : Type 0 where
  pub outputs : outputs_to e.association step.0 ≡ one.0
  pub sealing : sealing_of step.1 e.serial ≡ one.1

-- an output for another in front
pub out_head : (b : Bool) (x : Sent) (rest : List Sent) → b ≡ false → cond b (x ∷ rest) rest ≡ rest
out_head true x rest is = absurd (cc)
out_head false x rest is = refl

in_head : (b : Bool) (x : Sent) (rest : List Sent) → b ≡ true → cond b (x ∷ rest) rest ≡ x ∷ rest
in_head true x rest is = refl
in_head false x rest is = absurd (cc)

module _ (e : Entry) (place : ℕ) (change : Rewrite) (packet : Packet) where
  past : (x : Entry) (es : List Entry) (sealing : List Sealing) (one : List Sent × Sealing) → AreApart x e
      → Gives e (sent_each es place change packet (with_sealing (sent_to (sealing_of sealing x.serial) x place change packet).1 sealing)) one
      → Gives e (sent_each (x ∷ es) place change packet sealing) one
  past x es sealing one apart gives =
      let step = sent_to (sealing_of sealing x.serial) x place change packet in
      let other : bytes_eq (to_of step.0) e.association ≡ false =
      ap (λ (to : List ℕ). bytes_eq to e.association) (sent_is_to (sealing_of sealing x.serial) x place change packet) ∙ other_name x.association e.association apart.association in
      record {
        outputs =
            out_head (bytes_eq (to_of step.0) e.association) step.0 (outputs_to e.association (sent_each es place change packet (with_sealing step.1 sealing)).0) other ∙ gives.outputs;
        sealing = gives.sealing;
      }

  -- what is kept of it before
  kept_by : (x : Entry) (sealing : List Sealing) → AreApart x e
      → sealing_of (with_sealing (sent_to (sealing_of sealing x.serial) x place change packet).1 sealing) e.serial ≡ sealing_of sealing e.serial
  kept_by x sealing apart =
      kept_past sealing (sent_to (sealing_of sealing x.serial) x place change packet).1 e.serial
      (λ same. apart.serial (sym (step_serial sealing x place change packet) ∙ sym same))

  none : (es : List Entry) (sealing : List Sealing) → All (λ x. AreApart x e) es → Gives e (sent_each es place change packet sealing) ([], sealing_of sealing e.serial)
  none [] sealing apart = record { outputs = refl; sealing = refl }
  none (x ∷ es) sealing apart =
      let its = All-head (λ (y : Entry). AreApart y e) x es apart in
      let after : List Sealing = with_sealing (sent_to (sealing_of sealing x.serial) x place change packet).1 sealing in
      past x es sealing ([], sealing_of sealing e.serial) its
      (subst (λ (s : Sealing). Gives e (sent_each es place change packet after) ([], s)) (kept_by x sealing its) (none es after (All-tail (λ (y : Entry). AreApart y e) x es apart)))

  own : (es : List Entry) (sealing : List Sealing) → All (λ x. AreApart x e) es → Gives e (sent_each (e ∷ es) place change packet sealing) (one_of e place change packet true (sealing_of sealing e.serial))
  own es sealing apart =
      let step = sent_to (sealing_of sealing e.serial) e place change packet in
      let rest = none es (with_sealing step.1 sealing) apart in
      let its : bytes_eq (to_of step.0) e.association ≡ true =
      same_name (to_of step.0) e.association (sent_is_to (sealing_of sealing e.serial) e place change packet) in
      record {
        outputs =
            in_head (bytes_eq (to_of step.0) e.association) step.0 (outputs_to e.association (sent_each es place change packet (with_sealing step.1 sealing)).0) its
            ∙ ap (λ (xs : List Sent). step.0 ∷ xs) rest.outputs;
        sealing = rest.sealing ∙ kept_with sealing step.1 e.serial (sym (step_serial sealing e place change packet));
      }

  -- by whether it passes the test
  own_if : (b : Bool) (es : List Entry) (sealing : List Sealing) → All (λ x. AreApart x e) es
      → Gives e (sent_each (cond b (e ∷ es) es) place change packet sealing) (one_of e place change packet b (sealing_of sealing e.serial))
  own_if true es sealing apart = own es sealing apart
  own_if false es sealing apart = none es sealing apart

  past_if : (b mine : Bool) (x : Entry) (es : List Entry) (sealing : List Sealing) → AreApart x e
      → ((s : List Sealing) → Gives e (sent_each es place change packet s) (one_of e place change packet mine (sealing_of s e.serial)))
      → Gives e (sent_each (cond b (x ∷ es) es) place change packet sealing) (one_of e place change packet mine (sealing_of sealing e.serial))
  past_if true mine x es sealing apart gives =
      let after : List Sealing = with_sealing (sent_to (sealing_of sealing x.serial) x place change packet).1 sealing in
      past x es sealing (one_of e place change packet mine (sealing_of sealing e.serial)) apart
      (subst (λ (s : Sealing). Gives e (sent_each es place change packet after) (one_of e place change packet mine s)) (kept_by x sealing apart) (gives after))
  past_if false mine x es sealing apart gives = gives sealing

pub apart_twice : (x y : Entry) → AreApart x y → AreApart y x
apart_twice x y apart = record { association = λ same. apart.association (sym same); serial = λ same. apart.serial (sym same) }

pub each_gives : (e : Entry) (place : ℕ) (change : Rewrite) (packet : Packet) (test : Entry → Bool) (set : List Entry) (sealing : List Sealing) → AreOnce set → Contains set e
    → Gives e (sent_each (filter test set) place change packet sealing) (one_of e place change packet (test e) (sealing_of sealing e.serial))
each_gives e place change packet test [] sealing once member = absurd (omega arith)
each_gives e place change packet test (x ∷ set) sealing once member =
    elim (Contains-cons_cases x set e member) [
      | inl here ↦
          let rest : All (λ y. AreApart y e) (filter test set) =
          All-filter test (λ (y : Entry). AreApart y e) set
          (subst (λ (z : Entry). All (λ y. AreApart y z) set) here (All-weaker (AreApart x) (λ (y : Entry). AreApart y x) (λ y apart. apart_twice x y apart) set once.0)) in
          subst (λ (z : Entry). Gives e (sent_each (cond (test z) (z ∷ filter test set) (filter test set)) place change packet sealing) (one_of e place change packet (test e) (sealing_of sealing e.serial))) (sym here)
          (own_if e place change packet (test e) (filter test set) sealing rest)
      | inr later ↦
          past_if e place change packet (test x) (test e) x (filter test set) sealing (All-contains (AreApart x) set e once.0 later)
          (λ s. each_gives e place change packet test set s once.1 later)
    ]

-- ---- a batch

abbrev pub goes_to : Bool → Option (List (List ℕ)) → Packet → Entry → Bool
goes_to owned only packet e = owned && not (is_of (source_of packet) e) && is_named only e

abbrev pub one_from : Entry → Bool → ℕ → List Packet → Rewrite → Option (List (List ℕ)) → Sealing → List Sent × Sealing
one_from e owned place [] change only s = ([], s)
one_from e owned place (packet ∷ batch) change only s =
    let one = one_of e place change packet (goes_to owned only packet e) s in
    let more = one_from e owned (place + 1) batch change only one.1 in
    (one.0 ++ more.0, more.1)

from_gives : (e : Entry) (number of : ℕ) (set : List Entry) (place : ℕ) (batch : List Packet) (change : Rewrite) (only : Option (List (List ℕ))) (sealing : List Sealing) → AreOnce set → Contains set e
    → Gives e (sent_from number of set place batch change only sealing) (one_from e (is_owned number of e) place batch change only (sealing_of sealing e.serial))
from_gives e number of set place [] change only sealing once member = record { outputs = refl; sealing = refl }
from_gives e number of set place (packet ∷ batch) change only sealing once member =
    let step : List Sent × List Sealing = sent_each (recipients number of set only packet) place change packet sealing in
    let one : List Sent × Sealing = one_of e place change packet (goes_to (is_owned number of e) only packet e) (sealing_of sealing e.serial) in
    let its : Gives e step one = each_gives e place change packet (λ x. is_owned number of x && not (is_of (source_of packet) x) && is_named only x) set sealing once member in
    let rest = from_gives e number of set (place + 1) batch change only step.1 once member in
    let more : ℕ → Sealing → List Sent × Sealing = λ n s. one_from e (is_owned number of e) n batch change only s in
    record {
      outputs =
          filter-append (λ x. bytes_eq (to_of x) e.association) step.0 (sent_from number of set (place + 1) batch change only step.1).0
          ∙ (λ i. its.outputs i ++ (rest.outputs ∙ ap (λ (s : Sealing). (more (place + 1) s).0) its.sealing) i);
      sealing = rest.sealing ∙ ap (λ (s : Sealing). (more (place + 1) s).1) its.sealing;
    }

in_set_of : (set : List Entry) (e : Entry) → Contains set e → in_set set e.serial ≡ true
in_set_of [] e member = absurd (omega arith)
in_set_of (x ∷ set) e member =
    elim (Contains-cons_cases x set e member) [
      | inl here ↦ let same : x.serial ≡ e.serial = ap (λ (y : Entry). y.serial) here in grind (arith, nat_tests, same)
      | inr later ↦ let rest = in_set_of set e later in grind (arith, nat_tests, rest)
    ]

pub member_in : (set : List Entry) (e : Entry) → Contains set e → in_set set e.serial ≡ true
member_in = in_set_of

step_gives : (e : Entry) (number of : ℕ) (set : List Entry) (batch : List Packet) (change : Rewrite) (only : Option (List (List ℕ))) (sealing : List Sealing) → AreOnce set → Contains set e
    → Gives e (media_step number of set batch change only sealing) (one_from e (is_owned number of e) 0 batch change only (sealing_of sealing e.serial))
unfolding media_step
step_gives e number of set [] change only sealing once member = record { outputs = refl; sealing = refl }
step_gives e number of set (packet ∷ batch) change only sealing once member =
    subst (λ (s : Sealing). Gives e (sent_from number of set 0 (packet ∷ batch) change only (filter (λ x. in_set set x.serial) sealing)) (one_from e (is_owned number of e) 0 (packet ∷ batch) change only s))
    (kept_in set sealing e.serial (in_set_of set e member))
    (from_gives e number of set 0 (packet ∷ batch) change only (filter (λ x. in_set set x.serial) sealing) once member)

-- ---- one worker and many

owned_alone : (e : Entry) → is_owned 0 1 e ≡ true
owned_alone e = let none : e.serial % 1 ≡ 0 = omega arith in grind (arith, nat_tests, none)

pub gives_the_same : (number of : ℕ) (set : List Entry) (batch : List Packet) (change : Rewrite) (only : Option (List (List ℕ))) (one other : List Sealing) (e : Entry) → AreOnce set → Contains set e
    → is_owned number of e ≡ true → sealing_of one e.serial ≡ sealing_of other e.serial
    → GiveTheSame e (media_step number of set batch change only one) (media_step 0 1 set batch change only other)
gives_the_same number of set batch change only one other e once member owned same =
    let mine = step_gives e number of set batch change only one once member in
    let its = step_gives e 0 1 set batch change only other once member in
    let alike : one_from e (is_owned number of e) 0 batch change only (sealing_of one e.serial) ≡ one_from e (is_owned 0 1 e) 0 batch change only (sealing_of other e.serial) =
    λ i. one_from e ((owned ∙ sym (owned_alone e)) i) 0 batch change only (same i) in
    record {
      outputs = mine.outputs ∙ ap (λ (x : List Sent × Sealing). x.0) alike ∙ sym its.outputs;
      sealing = mine.sealing ∙ ap (λ (x : List Sent × Sealing). x.1) alike ∙ sym its.sealing;
    }

none_from : (e : Entry) (place : ℕ) (batch : List Packet) (change : Rewrite) (only : Option (List (List ℕ))) (s : Sealing) → (one_from e false place batch change only s).0 ≡ []
none_from e place [] change only s = refl
none_from e place (packet ∷ batch) change only s = none_from e (place + 1) batch change only s

pub gives_none : (number of : ℕ) (set : List Entry) (batch : List Packet) (change : Rewrite) (only : Option (List (List ℕ))) (sealing : List Sealing) (e : Entry) → AreOnce set → Contains set e
    → is_owned number of e ≡ false → outputs_to e.association (media_step number of set batch change only sealing).0 ≡ []
gives_none number of set batch change only sealing e once member owned =
    (step_gives e number of set batch change only sealing once member).outputs
    ∙ ap (λ (b : Bool). (one_from e b 0 batch change only (sealing_of sealing e.serial)).0) owned ∙ none_from e 0 batch change only (sealing_of sealing e.serial)
