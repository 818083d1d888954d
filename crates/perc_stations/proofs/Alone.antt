-- What an entry of a key set gets from the worker that owns it, and from one worker alone.
use Rattle.std.proofs.Common.{◌≡◌, ◌≢◌, ℕ, ◌+◌, ◌%◌, Bool, true, false, cond, not, List, [], ◌∷◌, ◌++◌, get_or, Option, inl, inr, refl, sym, ap, subst, ◌∙◌, arith}
use Rattle.std.specs.Prelude.{◌==◌, ◌&&◌, All, AllPairs, Contains, filter}
use Rattle.std.specs.Str.{bytes_eq}
use Rattle.std.proofs.lemmas.Bool.{cases_eq}
use Rattle.std.proofs.lemmas.Bool.Decides.{nat_tests}
use Rattle.std.proofs.lemmas.List.Elements.{All-cons, All-contains, All-filter, All-head, All-nil, All-tail, All-weaker, filter-append, filter_passes}
use Rattle.perc_ohb.specs.Rewriting.{Rewrite}
use Rattle.perc_keyset.specs.Set.{fold_ops, is_of}
use Rattle.perc_keyset.specs.declared.Entry.{Entry}
use Rattle.perc_keyset.specs.declared.Op.{Op}
use Rattle.perc_keyset.proofs.Lists.{AllPairs-head, AllPairs-tail, Contains-cons_cases}
use Rattle.perc_keyset.proofs.SetLaws.{IsSetOf-fold}
use Rattle.perc_distributor.specs.Inbound.{Packet, in_set}
use Rattle.perc_distributor.specs.Forwarding.{Sealing, Sent, is_named, is_owned, media_step, recipients, sealing_of, sent_each, sent_from, sent_to, source_of, with_sealing}
use Rattle.perc_forwarding.specs.Shares.{GiveTheSame, outputs_to, to_of}
use Rattle.perc_forwarding.proofs.Sharing.{kept_in, kept_past, kept_with, member_in, other_name, out_head, sent_is_to, step_serial}

-- An entry of this association is this one.
abbrev pub IsOnly : Entry → Entry → Type 0
IsOnly e x = x.association ≡ e.association → x ≡ e

only_in : (set : List Entry) (e : Entry) → AllPairs (λ c d. c.association ≢ d.association) set → Contains set e → All (IsOnly e) set
only_in [] e once member = All-nil (IsOnly e)
only_in (x ∷ set) e once member =
    let others : All (λ y. x.association ≢ y.association) set = AllPairs-head (λ (c d : Entry). c.association ≢ d.association) x set once in
    elim (Contains-cons_cases x set e member) [
      | inl here ↦
          All-cons (IsOnly e) x set (λ same. here)
          (All-weaker (λ (y : Entry). x.association ≢ y.association) (IsOnly e) (λ y apart same. absurd (apart (ap (λ (z : Entry). z.association) here ∙ sym same))) set others)
      | inr later ↦
          All-cons (IsOnly e) x set (λ same. absurd (All-contains (λ (y : Entry). x.association ≢ y.association) set e others later same))
          (only_in set e (AllPairs-tail (λ (c d : Entry). c.association ≢ d.association) x set once) later)
    ]

-- The set of any adds and removals has each association once.
pub only_of : (ops : List Op) (e : Entry) → Contains (fold_ops ops) e → All (IsOnly e) (fold_ops ops)
only_of ops e member = only_in (fold_ops ops) e (IsSetOf-fold ops).once member

-- ---- a packet to entries

-- To an entry that passes both tests both give the same. One that passes the second alone is of another serial.
pub record Fits (p q : Entry → Bool) (e x : Entry) : Type 0 where
  pub more : p x ≡ true → q x ≡ true
  pub less : p x ≡ false → q x ≡ true → x.serial ≢ e.serial
  pub only : x.association ≡ e.association → x.serial ≡ e.serial

module _ (e : Entry) (place : ℕ) (change : Rewrite) (packet : Packet) where
  abbrev step : Entry → List Sealing → Sent × Sealing
  step x s = sent_to (sealing_of s x.serial) x place change packet

  abbrev after : Entry → List Sealing → List Sealing
  after x s = with_sealing (step x s).1 s

  abbrev sends : List Entry → List Sealing → List Sent × List Sealing
  sends es s = sent_each es place change packet s

  abbrev Same : List Sealing → List Sealing → Type 0
  Same s t = sealing_of s e.serial ≡ sealing_of t e.serial

  -- an entry of another serial in front
  past_out : (x : Entry) (es : List Entry) (s : List Sealing) → x.association ≢ e.association
      → outputs_to e.association (sends (x ∷ es) s).0 ≡ outputs_to e.association (sends es (after x s)).0
  past_out x es s apart =
      let not_its : bytes_eq (to_of (step x s).0) e.association ≡ false =
      ap (λ (to : List ℕ). bytes_eq to e.association) (sent_is_to (sealing_of s x.serial) x place change packet) ∙ other_name x.association e.association apart in
      out_head (bytes_eq (to_of (step x s).0) e.association) (step x s).0 (outputs_to e.association (sends es (after x s)).0) not_its

  past_kept : (x : Entry) (s : List Sealing) → x.serial ≢ e.serial → Same (after x s) s
  past_kept x s apart = kept_past s (step x s).1 e.serial (λ same. apart (sym (step_serial s x place change packet) ∙ sym same))

  own_kept : (x : Entry) (s : List Sealing) → x.serial ≡ e.serial → sealing_of (after x s) e.serial ≡ (step x s).1
  own_kept x s is = kept_with s (step x s).1 e.serial (sym is ∙ sym (step_serial s x place change packet))

  abbrev Goes : List Entry → List Entry → Type 0
  Goes ps qs = (s t : List Sealing) → Same s t → GiveTheSame e (sends ps s) (sends qs t)

  -- one that both send to
  both : (x : Entry) (ps qs : List Entry) (s t : List Sealing) → (x.association ≡ e.association → x.serial ≡ e.serial) → Same s t → Goes ps qs
      → GiveTheSame e (sends (x ∷ ps) s) (sends (x ∷ qs) t)
  both x ps qs s t only same go =
      elim (cases_eq x.serial e.serial) [
        | inl is ↦
            let held : sealing_of s x.serial ≡ sealing_of t x.serial = ap (sealing_of s) is ∙ same ∙ sym (ap (sealing_of t) is) in
            let one : step x s ≡ step x t = ap (λ (k : Sealing). sent_to k x place change packet) held in
            let rest = go (after x s) (after x t) (own_kept x s is ∙ ap (λ (k : Sent × Sealing). k.1) one ∙ sym (own_kept x t is)) in
            record {
              outputs = λ i. cond (bytes_eq (to_of (one i).0) e.association) ((one i).0 ∷ rest.outputs i) (rest.outputs i);
              sealing = rest.sealing;
            }
        | inr apart ↦
            let rest = go (after x s) (after x t) (past_kept x s apart ∙ same ∙ sym (past_kept x t apart)) in
            record {
              outputs = past_out x ps s (λ named. apart (only named)) ∙ rest.outputs ∙ sym (past_out x qs t (λ named. apart (only named)));
              sealing = rest.sealing;
            }
      ]

  -- one that the second alone sends to
  second : (x : Entry) (ps qs : List Entry) (s t : List Sealing) → x.serial ≢ e.serial → (x.association ≡ e.association → x.serial ≡ e.serial) → Same s t → Goes ps qs
      → GiveTheSame e (sends ps s) (sends (x ∷ qs) t)
  second x ps qs s t apart only same go =
      let rest = go s (after x t) (same ∙ sym (past_kept x t apart)) in
      record { outputs = rest.outputs ∙ sym (past_out x qs t (λ named. apart (only named))); sealing = rest.sealing }

  by_tests : (b c : Bool) (x : Entry) (ps qs : List Entry) (s t : List Sealing) → (b ≡ true → c ≡ true) → (b ≡ false → c ≡ true → x.serial ≢ e.serial)
      → (x.association ≡ e.association → x.serial ≡ e.serial) → Same s t → Goes ps qs
      → GiveTheSame e (sends (cond b (x ∷ ps) ps) s) (sends (cond c (x ∷ qs) qs) t)
  by_tests true true x ps qs s t more less only same go = both x ps qs s t only same go
  by_tests true false x ps qs s t more less only same go = let never : false ≡ true = more refl in absurd (cc)
  by_tests false true x ps qs s t more less only same go = second x ps qs s t (less refl refl) only same go
  by_tests false false x ps qs s t more less only same go = go s t same

  each_same : (p q : Entry → Bool) (set : List Entry) (s t : List Sealing) → All (Fits p q e) set → Same s t
      → GiveTheSame e (sends (filter p set) s) (sends (filter q set) t)
  each_same p q [] s t fits same = record { outputs = refl; sealing = same }
  each_same p q (x ∷ set) s t fits same =
      let its = All-head (Fits p q e) x set fits in
      by_tests (p x) (q x) x (filter p set) (filter q set) s t its.more its.less its.only same
      (λ u v alike. each_same p q set u v (All-tail (Fits p q e) x set fits) alike)

  -- others alone
  each_none : (es : List Entry) (s : List Sealing) → All (λ x. x.association ≢ e.association) es → outputs_to e.association (sends es s).0 ≡ []
  each_none [] s apart = refl
  each_none (x ∷ es) s apart =
      past_out x es s (All-head (λ (y : Entry). y.association ≢ e.association) x es apart)
      ∙ each_none es (after x s) (All-tail (λ (y : Entry). y.association ≢ e.association) x es apart)

-- ---- whom a worker sends to

abbrev goes_to : ℕ → ℕ → Option (List (List ℕ)) → Packet → Entry → Bool
goes_to number of named packet x = is_owned number of x && not (is_of (source_of packet) x) && is_named named x

owned_alone : (x : Entry) → is_owned 0 1 x ≡ true
owned_alone x = let none : x.serial % 1 ≡ 0 = omega arith in grind (arith, nat_tests, none)

more_by : (a o n m : Bool) → o ≡ true → (a && n && m) ≡ true → (o && n && m) ≡ true
more_by true true n m is passes = passes
more_by false true n m is passes = absurd (cc)
more_by a false n m is passes = absurd (cc)

less_by : (a o n m : Bool) → (a && n && m) ≡ false → (o && n && m) ≡ true → a ≡ true → ⊥
less_by true true n m fails passes is = let never : false ≡ true = sym fails ∙ passes in absurd (cc)
less_by true false n m fails passes is = absurd (cc)
less_by false o n m fails passes is = absurd (cc)

first_of_three : (a n m : Bool) → (a && n && m) ≡ true → a ≡ true
first_of_three true n m passes = refl
first_of_three false n m passes = absurd (cc)

fits : (e : Entry) (number of : ℕ) (named : Option (List (List ℕ))) (packet : Packet) (x : Entry) → is_owned number of e ≡ true → IsOnly e x
    → Fits (goes_to number of named packet) (goes_to 0 1 named packet) e x
fits e number of named packet x owned only = record {
  more = more_by (is_owned number of x) (is_owned 0 1 x) (not (is_of (source_of packet) x)) (is_named named x) (owned_alone x);
  less = λ fails passes same.
      less_by (is_owned number of x) (is_owned 0 1 x) (not (is_of (source_of packet) x)) (is_named named x) fails passes
      (ap (λ (k : ℕ). k % of == number) same ∙ owned);
  only = λ same. ap (λ (y : Entry). y.serial) (only same);
}

-- ---- a batch

from_same : (e : Entry) (number of : ℕ) (set : List Entry) (place : ℕ) (batch : List Packet) (change : Rewrite) (named : Option (List (List ℕ))) (s t : List Sealing)
    → is_owned number of e ≡ true → All (IsOnly e) set → sealing_of s e.serial ≡ sealing_of t e.serial
    → GiveTheSame e (sent_from number of set place batch change named s) (sent_from 0 1 set place batch change named t)
from_same e number of set place [] change named s t owned only same = record { outputs = refl; sealing = same }
from_same e number of set place (packet ∷ batch) change named s t owned only same =
    let mine : List Sent × List Sealing = sent_each (recipients number of set named packet) place change packet s in
    let its : List Sent × List Sealing = sent_each (recipients 0 1 set named packet) place change packet t in
    let one : GiveTheSame e mine its =
    each_same e place change packet (goes_to number of named packet) (goes_to 0 1 named packet) set s t
    (All-weaker (IsOnly e) (Fits (goes_to number of named packet) (goes_to 0 1 named packet) e) (λ x o. fits e number of named packet x owned o) set only) same in
    let rest = from_same e number of set (place + 1) batch change named mine.1 its.1 owned only one.sealing in
    let test : Sent → Bool = λ x. bytes_eq (to_of x) e.association in
    record {
      outputs =
          filter-append test mine.0 (sent_from number of set (place + 1) batch change named mine.1).0 ∙ (λ i. one.outputs i ++ rest.outputs i)
          ∙ sym (filter-append test its.0 (sent_from 0 1 set (place + 1) batch change named its.1).0);
      sealing = rest.sealing;
    }

from_none : (e : Entry) (number of : ℕ) (set : List Entry) (place : ℕ) (batch : List Packet) (change : Rewrite) (named : Option (List (List ℕ))) (s : List Sealing)
    → is_owned number of e ≡ false → All (IsOnly e) set → outputs_to e.association (sent_from number of set place batch change named s).0 ≡ []
from_none e number of set place [] change named s other only = refl
from_none e number of set place (packet ∷ batch) change named s other only =
    let to : List Entry = recipients number of set named packet in
    let mine : List Sent × List Sealing = sent_each to place change packet s in
    let passed = filter_passes (goes_to number of named packet) set in
    let theirs : All (IsOnly e) to = All-filter (goes_to number of named packet) (IsOnly e) set only in
    let apart : All (λ x. x.association ≢ e.association) to =
    λ k d within same.
    let owned : is_owned number of (get_or to k d) ≡ true = first_of_three (is_owned number of (get_or to k d)) (not (is_of (source_of packet) (get_or to k d))) (is_named named (get_or to k d)) (passed k d within) in
    let never : true ≡ false = sym owned ∙ ap (is_owned number of) (theirs k d within same) ∙ other in
    absurd (cc) in
    filter-append (λ x. bytes_eq (to_of x) e.association) mine.0 (sent_from number of set (place + 1) batch change named mine.1).0
    ∙ (λ i. each_none e place change packet to s apart i ++ from_none e number of set (place + 1) batch change named mine.1 other only i)

pub step_same : (e : Entry) (number of : ℕ) (set : List Entry) (batch : List Packet) (change : Rewrite) (named : Option (List (List ℕ))) (s t : List Sealing)
    → is_owned number of e ≡ true → All (IsOnly e) set → Contains set e → sealing_of s e.serial ≡ sealing_of t e.serial
    → GiveTheSame e (media_step number of set batch change named s) (media_step 0 1 set batch change named t)
unfolding media_step
step_same e number of set [] change named s t owned only member same = record { outputs = refl; sealing = same }
step_same e number of set (packet ∷ batch) change named s t owned only member same =
    let there = member_in set e member in
    from_same e number of set 0 (packet ∷ batch) change named (filter (λ x. in_set set x.serial) s) (filter (λ x. in_set set x.serial) t) owned only
    (kept_in set s e.serial there ∙ same ∙ sym (kept_in set t e.serial there))

pub step_none : (e : Entry) (number of : ℕ) (set : List Entry) (batch : List Packet) (change : Rewrite) (named : Option (List (List ℕ))) (s : List Sealing)
    → is_owned number of e ≡ false → All (IsOnly e) set → outputs_to e.association (media_step number of set batch change named s).0 ≡ []
unfolding media_step
step_none e number of set [] change named s other only = refl
step_none e number of set (packet ∷ batch) change named s other only =
    from_none e number of set 0 (packet ∷ batch) change named (filter (λ x. in_set set x.serial) s) other only
