-- The tries of a packet, whatever its SEQ: each is under a context of its sender that is held, or under the new one of the key
-- that it carries; and each that is fresh may be committed.
use Rattle.std.proofs.Common.{◌≡◌, ℕ, ◌+◌, ◌*◌, ◌/◌, ◌%◌, ◌<◌, zero, suc, Bool, true, false, List, [], ◌∷◌, length, get_or, filter, reverse, Option, Some, None, Result, Ok, Err, refl, ap, ◌∙◌, sym, subst, arith}
use Rattle.std.specs.Prelude.{◌==◌, All, AllPairs, Contains, IfSome, IsTrue, MatchResult}
use Rattle.std.specs.List.{AllByRecursion, cons_option}
use Rattle.std.specs.Option.{option_map}
use Rattle.std.proofs.lemmas.Bool.{eqb-true}
use Rattle.std.proofs.lemmas.List.Elements.{All-contains, All-contains_itself, All-filter, All-from_recursion, All-take, filter_passes, recursion_from_All}
use Rattle.std.proofs.lemmas.List.Sorted.{All-permutation, IsPermutation-reverse}
use Rattle.perc_window.specs.Index.{nearest}
use Rattle.perc_window.specs.Replay.{greatest}
use Rattle.perc_window.specs.declared.window.Freshness.TheVariants.{Fresh}
use Rattle.perc_contexts.specs.declared.KeyLimit.{KeyLimit}
use Rattle.perc_contexts.specs.Receiving.{Attempt, Carried, Context, Receiving, at_nearest, carried_context, context_of, freshness_of, is_full, is_live, is_of, new_context, newest_of, tries}
use Rattle.perc_contexts.specs.History.{Acceptance, IsCommit, IsHistory}
use Rattle.perc_contexts.proofs.Names.{Apart, Pairs, is_of-parts, pairs-from, same-refl, same-sym}
use Rattle.perc_contexts.proofs.ReceivingLaws.{IsHeld, IsNew, IsTriedContext, found_of}

-- An attempt's context is held, or is the carried key's new one; and it is of this sender.
pub record IsTriedUnder (contexts : List Context) (ssrc : ℕ) (carried : Option Carried) (a : Attempt) : Type 0 where
  pub context : IsTriedContext contexts ssrc carried a.context
  pub sender : a.context.ssrc ≡ ssrc

-- ---- under the newest contexts

newest_held : (contexts : List Context) (ssrc : ℕ) → All (λ c. Contains contexts c × ((c.ssrc == ssrc) ≡ true)) (newest_of contexts ssrc)
newest_held contexts ssrc =
    let all = All-permutation (Contains contexts) contexts (reverse contexts) (IsPermutation-reverse contexts) (All-contains_itself contexts) in
    let test : Context → Bool = λ c. c.ssrc == ssrc in
    All-take (λ c. Contains contexts c × ((c.ssrc == ssrc) ≡ true)) 4 (filter test (reverse contexts))
    (λ k d within. (All-filter test (Contains contexts) (reverse contexts) all k d within, filter_passes test (reverse contexts) k d within))

one_nearest : (contexts : List Context) (ssrc : ℕ) (carried : Option Carried) (c : Context) (o : Option ℕ) (others : List Attempt)
    → Contains contexts c × ((c.ssrc == ssrc) ≡ true) → AllByRecursion (IsTriedUnder contexts ssrc carried) others
    → AllByRecursion (IsTriedUnder contexts ssrc carried) (cons_option (option_map (λ index. record { context = c; index = index }) o) others)
one_nearest contexts ssrc carried c None others held rest = rest
one_nearest contexts ssrc carried c (Some index) others held rest =
    (record { context = IsHeld held.0; sender = eqb-true c.ssrc ssrc held.1 }, rest)

all_nearest : (contexts : List Context) (ssrc seq : ℕ) (carried : Option Carried) (cs : List Context)
    → AllByRecursion (λ c. Contains contexts c × ((c.ssrc == ssrc) ≡ true)) cs → AllByRecursion (IsTriedUnder contexts ssrc carried) (at_nearest cs seq)
all_nearest contexts ssrc seq carried [] held = tt
all_nearest contexts ssrc seq carried (c ∷ cs) held =
    one_nearest contexts ssrc carried c (nearest (greatest c.accepted) seq) _ held.0 (all_nearest contexts ssrc seq carried cs held.1)

newest_tried : (contexts : List Context) (ssrc seq : ℕ) (carried : Option Carried)
    → AllByRecursion (IsTriedUnder contexts ssrc carried) (at_nearest (newest_of contexts ssrc) seq)
newest_tried contexts ssrc seq carried =
    all_nearest contexts ssrc seq carried (newest_of contexts ssrc)
    (recursion_from_All (λ c. Contains contexts c × ((c.ssrc == ssrc) ≡ true)) (newest_of contexts ssrc) (newest_held contexts ssrc))

-- ---- under the carried key

pub context_held : (contexts : List Context) (ssrc : ℕ) (key : Carried) (c : Context) → context_of contexts key.spi ssrc key.key ≡ Some c → carried_context contexts ssrc key ≡ Ok c
context_held contexts ssrc key c e = rw e refl

pub context_new : (contexts : List Context) (ssrc : ℕ) (key : Carried) → context_of contexts key.spi ssrc key.key ≡ None → is_full contexts key.spi ssrc ≡ false
    → carried_context contexts ssrc key ≡ Ok (new_context ssrc key)
context_new contexts ssrc key e f = rw (e, f) refl

-- the tries under a carried key with this context
abbrev pub tries_under : List Context → ℕ → ℕ → Carried → Context → List Attempt
tries_under contexts ssrc seq key c = record { context = c; index = key.roc * 65536 + seq } ∷ at_nearest (newest_of contexts ssrc) seq

pub tries_carried : (contexts : List Context) (ssrc seq : ℕ) (key : Carried) (c : Context) → carried_context contexts ssrc key ≡ Ok c
    → tries contexts ssrc seq (Some key) ≡ Ok (tries_under contexts ssrc seq key c)
unfolding tries
tries_carried contexts ssrc seq key c e = rw e refl

pub tries_full : (contexts : List Context) (ssrc seq : ℕ) (key : Carried) (f : KeyLimit) → carried_context contexts ssrc key ≡ Err f
    → tries contexts ssrc seq (Some key) ≡ Err f
unfolding tries
tries_full contexts ssrc seq key f e = rw e refl

pub tries_nearest : (contexts : List Context) (ssrc seq : ℕ) → tries contexts ssrc seq None ≡ Ok (at_nearest (newest_of contexts ssrc) seq)
unfolding tries
tries_nearest contexts ssrc seq = refl

carried_is : (contexts : List Context) (ssrc : ℕ) (key : Carried) (c : Context) (o : Option Context) (full : Bool)
    → context_of contexts key.spi ssrc key.key ≡ o → is_full contexts key.spi ssrc ≡ full → carried_context contexts ssrc key ≡ Ok c
    → IsTriedContext contexts ssrc (Some key) c × (c.ssrc ≡ ssrc)
carried_is contexts ssrc key c (Some d) full e f h =
    let same : ◌≡◌ {A = Result Context KeyLimit} (Ok d) (Ok c) = sym (context_held contexts ssrc key d e) ∙ h in
    let is : d ≡ c = cc in
    let there = found_of (is_of key.spi ssrc key.key) contexts d e in
    (IsHeld (subst (λ x. Contains contexts x) is there.0), sym (ap (λ x. x.ssrc) is) ∙ (is_of-parts key.spi ssrc key.key d there.1).1)
carried_is contexts ssrc key c None true e f h = let bad : ◌≡◌ {A = Result Context KeyLimit} (Err (record {})) (Ok c) = rw (e, f) at h in absurd (cc)
carried_is contexts ssrc key c None false e f h =
    let same : ◌≡◌ {A = Result Context KeyLimit} (Ok (new_context ssrc key)) (Ok c) = sym (context_new contexts ssrc key e f) ∙ h in
    let is : new_context ssrc key ≡ c = cc in
    (IsNew key refl (sym is) e f, ap (λ x. x.ssrc) (sym is))

-- ---- all tries

tried_by : (contexts : List Context) (ssrc seq : ℕ) (key : Carried) (attempts : List Attempt) (r : Result Context KeyLimit)
    → carried_context contexts ssrc key ≡ r → tries contexts ssrc seq (Some key) ≡ Ok attempts → AllByRecursion (IsTriedUnder contexts ssrc (Some key)) attempts
tried_by contexts ssrc seq key attempts (Err f) e h =
    let bad : ◌≡◌ {A = Result (List Attempt) KeyLimit} (Err f) (Ok attempts) = sym (tries_full contexts ssrc seq key f e) ∙ h in absurd (cc)
tried_by contexts ssrc seq key attempts (Ok c) e h =
    let same : ◌≡◌ {A = Result (List Attempt) KeyLimit} (Ok (tries_under contexts ssrc seq key c)) (Ok attempts) = sym (tries_carried contexts ssrc seq key c e) ∙ h in
    let is : tries_under contexts ssrc seq key c ≡ attempts = cc in
    let p = carried_is contexts ssrc key c (context_of contexts key.spi ssrc key.key) (is_full contexts key.spi ssrc) refl refl e in
    subst (AllByRecursion (IsTriedUnder contexts ssrc (Some key))) is
    (record { context = p.0; sender = p.1 }, newest_tried contexts ssrc seq (Some key))

pub all_tried : (contexts : List Context) (ssrc seq : ℕ) (carried : Option Carried) (attempts : List Attempt)
    → tries contexts ssrc seq carried ≡ Ok attempts → AllByRecursion (IsTriedUnder contexts ssrc carried) attempts
all_tried contexts ssrc seq None attempts h =
    let same : ◌≡◌ {A = Result (List Attempt) KeyLimit} (Ok (at_nearest (newest_of contexts ssrc) seq)) (Ok attempts) = sym (tries_nearest contexts ssrc seq) ∙ h in
    let is : at_nearest (newest_of contexts ssrc) seq ≡ attempts = cc in
    subst (AllByRecursion (IsTriedUnder contexts ssrc None)) is (newest_tried contexts ssrc seq None)
all_tried contexts ssrc seq (Some key) attempts h = tried_by contexts ssrc seq key attempts (carried_context contexts ssrc key) refl h

pub one_tried : (contexts : List Context) (ssrc seq : ℕ) (carried : Option Carried) (attempts : List Attempt) (a : Attempt)
    → tries contexts ssrc seq carried ≡ Ok attempts → Contains attempts a → IsTriedUnder contexts ssrc carried a
one_tried contexts ssrc seq carried attempts a h there =
    All-contains (IsTriedUnder contexts ssrc carried) attempts a
    (All-from_recursion (IsTriedUnder contexts ssrc carried) attempts (all_tried contexts ssrc seq carried attempts h)) there

-- ---- live SPIs

abbrev pub IsLiveKey : List ℕ → Option Carried → Type 0
IsLiveKey live carried = IfSome carried (λ key. IsTrue (is_live live key.spi))

key_live : (live : List ℕ) (carried : Option Carried) (key : Carried) → carried ≡ Some key → IsLiveKey live carried → is_live live key.spi ≡ true
key_live live None key e h = absurd (cc)
key_live live (Some other) key e h = let same : other ≡ key = cc in subst (λ (c : Carried). is_live live c.spi ≡ true) same h

context_live : (live : List ℕ) (contexts : List Context) (ssrc : ℕ) (carried : Option Carried) (c : Context) → All (λ c. IsTrue (is_live live c.spi)) contexts
    → IsLiveKey live carried → IsTriedContext contexts ssrc carried c → is_live live c.spi ≡ true
context_live live contexts ssrc carried c all key_is (IsHeld there) = All-contains (λ c. IsTrue (is_live live c.spi)) contexts c all there
context_live live contexts ssrc carried c all key_is (IsNew key e new none full) = rw new (key_live live carried key e key_is)

-- Each try is under a live SPI, where those of the contexts and of the carried key are.
pub tried_live : (live : List ℕ) (contexts : List Context) (ssrc : ℕ) (carried : Option Carried) (a : Attempt) → All (λ c. IsTrue (is_live live c.spi)) contexts
    → IsLiveKey live carried → IsTriedUnder contexts ssrc carried a → is_live live a.context.spi ≡ true
tried_live live contexts ssrc carried a all key_is tried = context_live live contexts ssrc carried a.context all key_is tried.context

-- ---- commits

distinct_at : (c d : Context) (contexts : List Context) (here : Bool) → is_of c.spi c.ssrc c.key d ≡ here → (is_of c.spi c.ssrc c.key d ≡ true → ⊥)
    → context_of contexts c.spi c.ssrc c.key ≡ Some c → context_of (d ∷ contexts) c.spi c.ssrc c.key ≡ Some c
distinct_at c d contexts true e apart rest = absurd (apart e)
distinct_at c d contexts false e apart rest = rw e rest

distinct_from : (contexts : List Context) (c : Context) (k : ℕ) → Pairs Apart contexts → k < length contexts → get_or contexts k c ≡ c
    → context_of contexts c.spi c.ssrc c.key ≡ Some c
distinct_from [] c k apart within is = absurd (omega arith)
distinct_from (d ∷ contexts) c zero apart within is = rw is (rw (same-refl c) refl)
distinct_from (d ∷ contexts) c (suc k) apart within is =
    let differ = All-contains (Apart d) contexts c (All-from_recursion (Apart d) contexts apart.0) (k, omega arith, is) in
    distinct_at c d contexts (is_of c.spi c.ssrc c.key d) refl (λ same. differ (same-sym c d same)) (distinct_from contexts c k apart.1 (omega arith) is)

-- A held context is the first of its key.
pub held_first : (contexts : List Context) (c : Context) → AllPairs Apart contexts → Contains contexts c → context_of contexts c.spi c.ssrc c.key ≡ Some c
held_first contexts c apart there = distinct_from contexts c there.0 (pairs-from Apart contexts apart) there.1 there.2

-- the key that would have carried a try
abbrev pub carrying : Attempt → Carried
carrying a = record { spi = a.context.spi; key = a.context.key; roc = a.index / 65536 }

first_is : (a : Attempt) → ◌≡◌ {A = Attempt} (record { context = a.context; index = (carrying a).roc * 65536 + a.index % 65536 }) a
first_is a = let e : a.index / 65536 * 65536 + a.index % 65536 ≡ a.index = omega arith in λ i. record { context = a.context; index = e i }

tried_as_carried : (contexts : List Context) (a : Attempt) → carried_context contexts a.context.ssrc (carrying a) ≡ Ok a.context
    → MatchResult (tries contexts a.context.ssrc (a.index % 65536) (Some (carrying a))) (λ attempts. Contains attempts a) (λ _. ⊥)
tried_as_carried contexts a e =
    rw (tries_carried contexts a.context.ssrc (a.index % 65536) (carrying a) a.context e) (0, omega arith, first_is a)

its_context : (contexts : List Context) (ssrc : ℕ) (carried : Option Carried) (c : Context) (roc : ℕ) → AllPairs Apart contexts → c.ssrc ≡ ssrc
    → IsTriedContext contexts ssrc carried c → carried_context contexts c.ssrc (record { spi = c.spi; key = c.key; roc = roc }) ≡ Ok c
its_context contexts ssrc carried c roc apart sender (IsHeld there) =
    context_held contexts c.ssrc (record { spi = c.spi; key = c.key; roc = roc }) c (held_first contexts c apart there)
its_context contexts ssrc carried c roc apart sender (IsNew key e new none full) =
    rw new (context_new contexts ssrc (record { spi = key.spi; key = key.key; roc = roc }) none full)

-- A fresh try may be committed.
pub may_commit : (held : Receiving) (ssrc : ℕ) (carried : Option Carried) (a : Attempt) (done : List Acceptance) → IsHistory held done → IsLiveKey held.live carried
    → IsTriedUnder held.contexts ssrc carried a → freshness_of a ≡ Fresh → IsCommit held a.context.ssrc (Some (carrying a)) a
may_commit held ssrc carried a done h key_is tried fresh = record {
  live = tried_live held.live held.contexts ssrc carried a h.live key_is tried;
  tried = tried_as_carried held.contexts a (its_context held.contexts ssrc carried a.context (a.index / 65536) h.distinct tried.sender tried.context);
  fresh = fresh;
}
