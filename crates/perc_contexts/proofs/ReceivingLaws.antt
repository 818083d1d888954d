-- Laws of the tries of a packet, and of what a commit changes.
use Rattle.std.proofs.Common.{◌≡◌, ℕ, suc, ◌+◌, ◌*◌, ◌%◌, ◌^◌, ◌<◌, Bool, true, false, cond, List, [], ◌∷◌, filter, reverse, Option, Some, None, Result, Ok, Err, refl, ap, ◌∙◌, sym, subst, arith}
use Rattle.std.specs.Prelude.{◌==◌, find, All, Contains, MatchResult, IfSome, IsTrue}
use Rattle.std.specs.List.{AllByRecursion, cons_option}
use Rattle.std.specs.Option.{option_map}
use Rattle.std.proofs.lemmas.Bool.{eqb-true, both_ways, false_from_ne_true}
use Rattle.std.proofs.lemmas.List.Elements.{All-from_recursion, recursion_from_All, All-contains, All-contains_itself, All-take, All-filter, filter_passes}
use Rattle.std.proofs.lemmas.List.Sorted.{All-permutation, IsPermutation-reverse}
use Rattle.perc_window.specs.Index.{nearest}
use Rattle.perc_window.specs.Replay.{greatest}
use Rattle.perc_window.proofs.IndexLaws.{nearest_some}
use Rattle.perc_contexts.specs.declared.KeyLimit.{KeyLimit}
use Rattle.perc_contexts.specs.Receiving.{Context, Receiving, Carried, Attempt, is_live, freshness_of, with_index, committed, is_of, context_of, newest_of, at_nearest, is_full, new_context, carried_context, tries}
use Rattle.perc_contexts.proofs.Names.{is_of-parts, is_of-made, same-refl}
use Rattle.perc_contexts.proofs.Standing.{at_within}
use Rattle.perc_contexts.proofs.Committing.{is_its, holds_none, none_here, committed-cons, committed-nil, committed_by}
use Rattle.perc_contexts.specs.declared.TryPlace.{TryPlace}
use Rattle.perc_contexts.specs.declared.TryPlace.TheVariants.{Held, New}
use Rattle.perc_contexts.specs.declared.Try.{Try}
use Rattle.perc_contexts.specs.Kept.{Kept, StandsFor, IsTry, AreTries, IsAnswer, IsCarried, IsPlace, MayCommit, CanCommit}
use Rattle.perc_contexts.specs.History.{IsCommit}
use Rattle.arrayvec.specs.ArrayVec.{ArrayVec}
use Rattle.perc_window.specs.declared.window.Freshness.TheVariants.{Fresh}

-- A context is held, or it is the new one of the carried key, which has none yet.
pub data IsTriedContext (contexts : List Context) (ssrc : ℕ) (carried : Option Carried) (c : Context) : Type 0 where
  IsHeld : Contains contexts c → IsTriedContext contexts ssrc carried c
  IsNew : (key : Carried) → carried ≡ Some key → c ≡ new_context ssrc key → context_of contexts key.spi ssrc key.key ≡ None
      → is_full contexts key.spi ssrc ≡ false → IsTriedContext contexts ssrc carried c

-- What is so of each attempt of a packet with this SSRC and this SEQ.
pub record IsTried (contexts : List Context) (ssrc seq : ℕ) (carried : Option Carried) (a : Attempt) : Type 0 where
  pub context : IsTriedContext contexts ssrc carried a.context
  pub sender : a.context.ssrc ≡ ssrc
  pub congruent : a.index % 65536 ≡ seq
  pub in_range : IfSome carried (λ key. key.roc < 2 ^ 32) → a.index < 2 ^ 48

-- ---- under the newest contexts

passes_both : {X : Type 0} (P : X → Type 0) (test : X → Bool) (xs : List X) → All P xs → All (λ x. P x × (test x ≡ true)) (filter test xs)
passes_both P test xs all = λ k d within. (All-filter test P xs all k d within, filter_passes test xs k d within)

newest_held : (contexts : List Context) (ssrc : ℕ) → All (λ c. Contains contexts c × ((c.ssrc == ssrc) ≡ true)) (newest_of contexts ssrc)
newest_held contexts ssrc =
    All-take (λ c. Contains contexts c × ((c.ssrc == ssrc) ≡ true)) 4 _
    (passes_both (Contains contexts) (λ c. c.ssrc == ssrc) (reverse contexts)
    (All-permutation (Contains contexts) contexts (reverse contexts) (IsPermutation-reverse contexts) (All-contains_itself contexts)))

attempt_is : (contexts : List Context) (ssrc seq : ℕ) (carried : Option Carried) (c : Context) (o : Option ℕ) (others : List Attempt) → seq < 65536
    → nearest (greatest c.accepted) seq ≡ o → Contains contexts c × ((c.ssrc == ssrc) ≡ true) → AllByRecursion (IsTried contexts ssrc seq carried) others
    → AllByRecursion (IsTried contexts ssrc seq carried) (cons_option (option_map (λ index. record { context = c; index = index }) o) others)
attempt_is contexts ssrc seq carried c None others fits e held rest = rest
attempt_is contexts ssrc seq carried c (Some index) others fits e held rest =
    let near = nearest_some (greatest c.accepted) seq index fits e in (
      record {
        context = IsHeld held.0;
        sender = eqb-true c.ssrc ssrc held.1;
        congruent = near.congruent;
        in_range = λ _. near.in_range;
      },
      rest,
    )

nearest_tried : (contexts : List Context) (ssrc seq : ℕ) (carried : Option Carried) (cs : List Context) → seq < 65536
    → AllByRecursion (λ c. Contains contexts c × ((c.ssrc == ssrc) ≡ true)) cs → AllByRecursion (IsTried contexts ssrc seq carried) (at_nearest cs seq)
nearest_tried contexts ssrc seq carried [] fits held = tt
nearest_tried contexts ssrc seq carried (c ∷ cs) fits held =
    attempt_is contexts ssrc seq carried c (nearest (greatest c.accepted) seq) _ fits refl held.0 (nearest_tried contexts ssrc seq carried cs fits held.1)

newest_tried : (contexts : List Context) (ssrc seq : ℕ) (carried : Option Carried) → seq < 65536
    → AllByRecursion (IsTried contexts ssrc seq carried) (at_nearest (newest_of contexts ssrc) seq)
newest_tried contexts ssrc seq carried fits =
    nearest_tried contexts ssrc seq carried (newest_of contexts ssrc) fits
    (recursion_from_All (λ c. Contains contexts c × ((c.ssrc == ssrc) ≡ true)) (newest_of contexts ssrc) (newest_held contexts ssrc))

-- ---- under the carried key

contains-later : {X : Type 0} (y : X) (xs : List X) (x : X) → Contains xs x → Contains (y ∷ xs) x
contains-later y xs x h = (suc h.0, omega arith, h.2)

-- The first that passes a test is of the list, and passes.
found_by : {X : Type 0} (test : X → Bool) (y : X) (xs : List X) (x : X) (passes : Bool) → test y ≡ passes
    → (find test xs ≡ Some x → Contains xs x × (test x ≡ true)) → find test (y ∷ xs) ≡ Some x → Contains (y ∷ xs) x × (test x ≡ true)
found_by test y xs x true e rest h =
    let same : Some y ≡ Some x = rw e at h in let is : y ≡ x = cc in ((0, omega arith, is), ap test (sym is) ∙ e)
found_by test y xs x false e rest h =
    let later : find test xs ≡ Some x = rw e at h in let there = rest later in (contains-later y xs x there.0, there.1)

pub found_of : {X : Type 0} (test : X → Bool) (xs : List X) (x : X) → find test xs ≡ Some x → Contains xs x × (test x ≡ true)
found_of test [] x h = absurd (cc)
found_of test (y ∷ xs) x h = found_by test y xs x (test y) refl (found_of test xs x) h

-- what a carried key's context is
carried_by : (contexts : List Context) (ssrc : ℕ) (carried : Carried) (c : Context) (o : Option Context) (full : Bool)
    → context_of contexts carried.spi ssrc carried.key ≡ o → is_full contexts carried.spi ssrc ≡ full → carried_context contexts ssrc carried ≡ Ok c
    → IsTriedContext contexts ssrc (Some carried) c × (c.ssrc ≡ ssrc)
carried_by contexts ssrc carried c (Some d) full e f h =
    let same : Ok d ≡ Ok c = rw e at h in let is : d ≡ c = cc in
    let there = found_of (is_of carried.spi ssrc carried.key) contexts d e in
    (IsHeld (subst (λ x. Contains contexts x) is there.0), sym (ap (λ x. x.ssrc) is) ∙ (is_of-parts carried.spi ssrc carried.key d there.1).1)
carried_by contexts ssrc carried c None true e f h = let bad : ◌≡◌ {A = Result Context KeyLimit} (Err (record {})) (Ok c) = rw (e, f) at h in absurd (cc)
carried_by contexts ssrc carried c None false e f h =
    let same : Ok (new_context ssrc carried) ≡ Ok c = rw (e, f) at h in let is : new_context ssrc carried ≡ c = cc in
    (IsNew carried refl (sym is) e f, ap (λ x. x.ssrc) (sym is))

first_tried : (contexts : List Context) (ssrc seq : ℕ) (carried : Carried) (c : Context) → seq < 65536 → carried_context contexts ssrc carried ≡ Ok c
    → IsTried contexts ssrc seq (Some carried) (record { context = c; index = carried.roc * 65536 + seq })
first_tried contexts ssrc seq carried c fits e =
    let p = carried_by contexts ssrc carried c (context_of contexts carried.spi ssrc carried.key) (is_full contexts carried.spi ssrc) refl refl e in record {
      context = p.0;
      sender = p.1;
      congruent = omega arith;
      in_range = λ low. omega arith;
    }

-- ---- all tries

tried_by : (contexts : List Context) (ssrc seq : ℕ) (carried : Carried) (attempts : List Attempt) (r : Result Context KeyLimit) → seq < 65536
    → carried_context contexts ssrc carried ≡ r → tries contexts ssrc seq (Some carried) ≡ Ok attempts
    → AllByRecursion (IsTried contexts ssrc seq (Some carried)) attempts
unfolding tries
tried_by contexts ssrc seq carried attempts (Err f) fits e h = let bad : Err f ≡ Ok attempts = rw e at h in absurd (cc)
tried_by contexts ssrc seq carried attempts (Ok c) fits e h =
    let same : Ok (record { context = c; index = carried.roc * 65536 + seq } ∷ at_nearest (newest_of contexts ssrc) seq) ≡ Ok attempts = rw e at h in
    let is : record { context = c; index = carried.roc * 65536 + seq } ∷ at_nearest (newest_of contexts ssrc) seq ≡ attempts = cc in
    subst (AllByRecursion (IsTried contexts ssrc seq (Some carried))) is
    (first_tried contexts ssrc seq carried c fits e, newest_tried contexts ssrc seq (Some carried) fits)

each_tried : (contexts : List Context) (ssrc seq : ℕ) (carried : Option Carried) (attempts : List Attempt) → seq < 65536
    → tries contexts ssrc seq carried ≡ Ok attempts → AllByRecursion (IsTried contexts ssrc seq carried) attempts
unfolding tries
each_tried contexts ssrc seq None attempts fits e =
    let is : at_nearest (newest_of contexts ssrc) seq ≡ attempts = cc in
    subst (AllByRecursion (IsTried contexts ssrc seq None)) is (newest_tried contexts ssrc seq None fits)
each_tried contexts ssrc seq (Some carried) attempts fits e =
    tried_by contexts ssrc seq carried attempts (carried_context contexts ssrc carried) fits refl e

-- Each attempt's context is held, or is the carried key's new one; it is of this sender, and its index has this SEQ and is in range.
pub tries_are_tried : (contexts : List Context) (ssrc seq : ℕ) (carried : Option Carried) (attempts : List Attempt) → seq < 65536
    → tries contexts ssrc seq carried ≡ Ok attempts → All (IsTried contexts ssrc seq carried) attempts
tries_are_tried contexts ssrc seq carried attempts fits e =
    All-from_recursion (IsTried contexts ssrc seq carried) attempts (each_tried contexts ssrc seq carried attempts fits e)

tried_in : (contexts : List Context) (ssrc seq : ℕ) (carried : Option Carried) (a : Attempt) (r : Result (List Attempt) KeyLimit) → seq < 65536
    → tries contexts ssrc seq carried ≡ r → MatchResult r (λ attempts. Contains attempts a) (λ _. ⊥) → IsTried contexts ssrc seq carried a
tried_in contexts ssrc seq carried a (Ok attempts) fits e h =
    All-contains (IsTried contexts ssrc seq carried) attempts a (tries_are_tried contexts ssrc seq carried attempts fits e) h
tried_in contexts ssrc seq carried a (Err f) fits e h = absurd h

-- the same of one of the tries
pub is_tried : (contexts : List Context) (ssrc seq : ℕ) (carried : Option Carried) (a : Attempt) → seq < 65536
    → MatchResult (tries contexts ssrc seq carried) (λ attempts. Contains attempts a) (λ _. ⊥) → IsTried contexts ssrc seq carried a
is_tried contexts ssrc seq carried a fits h = tried_in contexts ssrc seq carried a (tries contexts ssrc seq carried) fits refl h

-- ---- the code's tries

-- What is so of each of the code's tries.
pub record IsOneOf (held : Receiving) (ssrc : ℕ) (carried : Option Carried) (attempts : List Attempt) (t : Try) : Type 0 where
  pub attempt : Attempt
  pub is_try : IsTry held.contexts ssrc carried t attempt
  pub there : Contains attempts attempt

one_later : (held : Receiving) (ssrc : ℕ) (carried : Option Carried) (a : Attempt) (attempts : List Attempt) (t : Try)
    → IsOneOf held ssrc carried attempts t → IsOneOf held ssrc carried (a ∷ attempts) t
one_later held ssrc carried a attempts t one =
    record { attempt = one.attempt; is_try = one.is_try; there = contains-later a attempts one.attempt one.there }

later_all : (held : Receiving) (ssrc : ℕ) (carried : Option Carried) (a : Attempt) (attempts : List Attempt) (list : List Try)
    → AllByRecursion (IsOneOf held ssrc carried attempts) list → AllByRecursion (IsOneOf held ssrc carried (a ∷ attempts)) list
later_all held ssrc carried a attempts [] all = tt
later_all held ssrc carried a attempts (t ∷ list) all =
    (one_later held ssrc carried a attempts t all.0, later_all held ssrc carried a attempts list all.1)

each_of : (held : Receiving) (ssrc : ℕ) (carried : Option Carried) (attempts : List Attempt) (list : List Try)
    → AreTries held.contexts ssrc carried list attempts → AllByRecursion (IsOneOf held ssrc carried attempts) list
each_of held ssrc carried [] [] are = tt
each_of held ssrc carried (a ∷ attempts) [] are = tt
each_of held ssrc carried [] (t ∷ list) are = absurd are
each_of held ssrc carried (a ∷ attempts) (t ∷ list) are = (
  record { attempt = a; is_try = are.0; there = (0, omega arith, refl) },
  later_all held ssrc carried a attempts list (each_of held ssrc carried attempts list are.1),
)

-- Each of the code's tries stands for one of those that are told.
pub tries_are_of : (held : Receiving) (ssrc : ℕ) (carried : Option Carried) (attempts : List Attempt) (list : List Try)
    → AreTries held.contexts ssrc carried list attempts → All (IsOneOf held ssrc carried attempts) list
tries_are_of held ssrc carried attempts list are = All-from_recursion _ list (each_of held ssrc carried attempts list are)

-- It may be committed where it is fresh.
pub may_commit : (held : Receiving) (ssrc seq : ℕ) (carried : Option Carried) (attempts : List Attempt) (t : Try) (a : Attempt) → seq < 65536
    → tries held.contexts ssrc seq carried ≡ Ok attempts → IsTry held.contexts ssrc carried t a → Contains attempts a → freshness_of a ≡ Fresh
    → MayCommit held ssrc carried t a
may_commit held ssrc seq carried attempts t a fits e is_try there fresh =
    let tried = All-contains (IsTried held.contexts ssrc seq carried) attempts a (tries_are_tried held.contexts ssrc seq carried attempts fits e) there in
    record { is_try = is_try; tried = rw (tried.congruent, e) there; fresh = fresh }

-- A context is kept at the place of a try.
pub is_place : (kept : Kept) (held : Receiving) (ssrc : ℕ) (carried : Option Carried) (t : Try) (a : Attempt) (place : TryPlace) → StandsFor kept held
    → t.place ≡ place → IsTry held.contexts ssrc carried t a → IsPlace kept.contexts place
is_place kept held ssrc carried t a New stands e is_try = tt
is_place kept held ssrc carried t a (Held place) stands e is_try =
    at_within kept.contexts held.contexts place a.context stands.contexts (rw e at is_try.context)

-- ---- what a commit changes

its_found : (a : Attempt) (c : Context) (contexts : List Context) (its : Bool) → is_its a c ≡ its
    → ((d : Context) → find (is_its a) contexts ≡ Some d → find (is_its a) (committed a contexts) ≡ Some (with_index a.index d))
    → (d : Context) → find (is_its a) (c ∷ contexts) ≡ Some d → find (is_its a) (committed_by a c contexts its) ≡ Some (with_index a.index d)
its_found a c contexts true e rest d h = let same : Some c ≡ Some d = rw e at h in let is : c ≡ d = cc in rw e (ap (λ x. Some (with_index a.index x)) is)
its_found a c contexts false e rest d h = rw e (rest d (rw e at h))

-- The attempt's context has the index too ..
pub committed_its : (a : Attempt) (contexts : List Context) (c : Context) → find (is_its a) contexts ≡ Some c
    → find (is_its a) (committed a contexts) ≡ Some (with_index a.index c)
committed_its a [] c h = absurd (cc)
committed_its a (d ∷ contexts) c h =
    rw (committed-cons a d contexts (is_its a d) refl) (its_found a d contexts (is_its a d) refl (committed_its a contexts) c h)

new_found : (a : Attempt) (c : Context) (contexts : List Context) → is_its a c ≡ false
    → find (is_its a) (committed a contexts) ≡ Some (with_index a.index a.context)
    → find (is_its a) (committed_by a c contexts false) ≡ Some (with_index a.index a.context)
new_found a c contexts e rest = rw e rest

-- .. also where it wasn't held.
pub committed_new_its : (a : Attempt) (contexts : List Context) → holds_none a contexts
    → find (is_its a) (committed a contexts) ≡ Some (with_index a.index a.context)
committed_new_its a [] none = rw (committed-nil a) (ap (λ b. cond b (Some (with_index a.index a.context)) None) (same-refl a.context))
committed_new_its a (c ∷ contexts) none =
    let here = none_here a c contexts (is_its a c) refl none in
    rw (committed-cons a c contexts false here.0) (new_found a c contexts here.0 (committed_new_its a contexts here.1))

not_its : (a : Attempt) (spi ssrc : ℕ) (key : List ℕ) (c : Context) → is_of spi ssrc key a.context ≡ false → is_its a c ≡ true → is_of spi ssrc key c ≡ false
not_its a spi ssrc key c other its =
    false_from_ne_true (is_of spi ssrc key c) (λ same.
    let p = is_of-parts spi ssrc key c same in let q = is_of-parts a.context.spi a.context.ssrc a.context.key c its in
    both_ways _ other (is_of-made spi ssrc key a.context (sym q.0 ∙ p.0) (sym q.1 ∙ p.1) (sym q.2 ∙ p.2)))

other_found : (a : Attempt) (spi ssrc : ℕ) (key : List ℕ) (c : Context) (contexts : List Context) (its : Bool) → is_its a c ≡ its
    → is_of spi ssrc key a.context ≡ false → context_of (committed a contexts) spi ssrc key ≡ context_of contexts spi ssrc key
    → context_of (committed_by a c contexts its) spi ssrc key ≡ context_of (c ∷ contexts) spi ssrc key
other_found a spi ssrc key c contexts true e other rest = rw (not_its a spi ssrc key c other e) refl
other_found a spi ssrc key c contexts false e other rest = λ i. cond (is_of spi ssrc key c) (Some c) (rest i)

-- Every other context is as it was.
pub committed_other : (a : Attempt) (contexts : List Context) (spi ssrc : ℕ) (key : List ℕ) → is_of spi ssrc key a.context ≡ false
    → context_of (committed a contexts) spi ssrc key ≡ context_of contexts spi ssrc key
committed_other a [] spi ssrc key other = rw (committed-nil a) (rw other refl)
committed_other a (c ∷ contexts) spi ssrc key other =
    rw (committed-cons a c contexts (is_its a c) refl)
    (other_found a spi ssrc key c contexts (is_its a c) refl other (committed_other a contexts spi ssrc key other))

-- ---- an answer of the code

-- The code answered with these tries.
pub record IsAnswered (held : Receiving) (ssrc seq : ℕ) (carried : Option Carried) (list : List Try) : Type 0 where
  pub attempts : List Attempt
  pub is : tries held.contexts ssrc seq carried ≡ Ok attempts
  pub are : AreTries held.contexts ssrc carried list attempts

answered_by : (held : Receiving) (ssrc seq : ℕ) (carried : Option Carried) (list : ArrayVec Try) (r : Result (List Attempt) KeyLimit)
    → tries held.contexts ssrc seq carried ≡ r → IsAnswer held.contexts ssrc carried r (Ok list) → IsAnswered held ssrc seq carried list.items
answered_by held ssrc seq carried list (Ok attempts) e h = record { attempts = attempts; is = e; are = h }
answered_by held ssrc seq carried list (Err f) e h = absurd h

pub answered : (held : Receiving) (ssrc seq : ℕ) (carried : Option Carried) (list : ArrayVec Try)
    → IsAnswer held.contexts ssrc carried (tries held.contexts ssrc seq carried) (Ok list) → IsAnswered held ssrc seq carried list.items
answered held ssrc seq carried list h = answered_by held ssrc seq carried list (tries held.contexts ssrc seq carried) refl h

-- One of them stands for an attempt ..
pub answered_one : (held : Receiving) (ssrc seq : ℕ) (carried : Option Carried) (list : List Try) (t : Try) (h : IsAnswered held ssrc seq carried list)
    → Contains list t → IsOneOf held ssrc carried h.attempts t
answered_one held ssrc seq carried list t h there =
    All-contains (IsOneOf held ssrc carried h.attempts) list t (tries_are_of held ssrc carried h.attempts list h.are) there

-- .. a context is kept at its place where it names one ..
pub answered_place : (kept : Kept) (held : Receiving) (ssrc seq : ℕ) (carried : Option Carried) (list : List Try) (t : Try) → StandsFor kept held
    → IsAnswered held ssrc seq carried list → Contains list t → IsPlace kept.contexts t.place
answered_place kept held ssrc seq carried list t stands h there =
    let one = answered_one held ssrc seq carried list t h there in
    is_place kept held ssrc carried t one.attempt t.place stands refl one.is_try

-- .. and it may be committed where it is fresh.
pub answered_commit : (kept : Kept) (held : Receiving) (ssrc seq : ℕ) (carried : Option Carried) (list : List Try) (t : Try) → seq < 65536
    → StandsFor kept held → IsAnswered held ssrc seq carried list → Contains list t
    → ((a : Attempt) → IsTry held.contexts ssrc carried t a → Fresh ≡ freshness_of a) → CanCommit kept ssrc carried t
answered_commit kept held ssrc seq carried list t fits stands h there fresh =
    let one = answered_one held ssrc seq carried list t h there in
    record {
      held = held;
      attempt = one.attempt;
      stands = stands;
      may = may_commit held ssrc seq carried h.attempts t one.attempt fits h.is one.is_try one.there (sym (fresh one.attempt one.is_try));
    }

live_of : (live : List ℕ) (carried : Option Carried) → IsCarried live carried → IfSome carried (λ c. IsTrue (is_live live c.spi))
live_of live None h = tt
live_of live (Some c) h = h.live_is

-- What may be committed is a commit of the calls' history.
pub is_commit : (held : Receiving) (ssrc : ℕ) (carried : Option Carried) (t : Try) (a : Attempt) → IsCarried held.live carried
    → MayCommit held ssrc carried t a → IsCommit held ssrc carried a
is_commit held ssrc carried t a h may = record { live = live_of held.live carried h; tried = may.tried; fresh = may.fresh }
