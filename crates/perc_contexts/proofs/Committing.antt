-- What a commit changes of the contexts.
use Rattle.std.proofs.Common.{◌≡◌, ℕ, suc, zero, ◌<◌, Bool, true, false, cond, List, [], ◌∷◌, ◌++◌, length, Option, Some, None, refl, ap, ◌∙◌, sym, subst, arith, set, length-set}
use Rattle.std.specs.Prelude.{slice_get, find, nat_le, MatchResult}
use Rattle.std.specs.List.{AllByRecursion}
use Rattle.std.proofs.lemmas.Bool.{false_from_ne_true, both_ways, leb-false, or_parts}
use Rattle.std.proofs.lemmas.List.{length_push}
use Rattle.perc_window.specs.Replay.{freshness, freshness_at}
use Rattle.perc_window.specs.declared.window.Freshness.TheVariants.{Fresh}
use Rattle.perc_window.proofs.IndexLaws.{freshness_same}
use Rattle.perc_contexts.specs.Receiving.{Context, Carried, Attempt, new_context, is_full, tries, is_of, context_of, with_index, committed}
use Rattle.perc_contexts.specs.Kept.{KeptContext, IsOf, AreOf, IsWellKept, new_of}
use Rattle.perc_contexts.specs.History.{SameContext}
use Rattle.perc_contexts.proofs.Names.{same-refl, same-sym, same-trans, Pairs, pairs-from, pairs-to, all_at, Apart, KeptApart, distinct_held, distinct_kept}

-- a context is that of an attempt, and an attempt's has no context yet
abbrev pub is_its : Attempt → Context → Bool
is_its a c = is_of a.context.spi a.context.ssrc a.context.key c

abbrev pub holds_none : Attempt → List Context → Type 0
holds_none a contexts = find (is_its a) contexts ≡ None

pub none_here : (a : Attempt) (c : Context) (contexts : List Context) (its : Bool) → is_its a c ≡ its → holds_none a (c ∷ contexts)
    → (is_its a c ≡ false) × holds_none a contexts
none_here a c contexts true e none = let bad : Some c ≡ None = rw e at none in absurd (cc)
none_here a c contexts false e none = (e, rw e at none)

-- what a commit makes of the first context
abbrev pub committed_by : Attempt → Context → List Context → Bool → List Context
committed_by a c contexts its = cond its (with_index a.index c ∷ contexts) (c ∷ committed a contexts)

pub committed-cons : (a : Attempt) (c : Context) (contexts : List Context) (its : Bool) → is_its a c ≡ its
    → committed a (c ∷ contexts) ≡ committed_by a c contexts its
unfolding committed
committed-cons a c contexts its e = ap (λ b. committed_by a c contexts b) e

pub committed-nil : (a : Attempt) → committed a [] ≡ with_index a.index a.context ∷ []
unfolding committed
committed-nil a = refl

-- ---- in what is kept

-- A held context's index goes to its place.
pub committed_held : (kept : List KeptContext) (contexts : List Context) (place : ℕ) (a : Attempt) (k : KeptContext) → Pairs Apart contexts
    → AreOf kept contexts → slice_get contexts place ≡ Some a.context → IsOf k (with_index a.index a.context)
    → AreOf (set kept place k) (committed a contexts)
committed_held kept [] place a k apart are at one = absurd (cc)
committed_held [] (c ∷ contexts) place a k apart are at one = absurd are
committed_held (j ∷ kept) (c ∷ contexts) zero a k apart are at one =
    let same : a.context ≡ c = cc in
    let its : is_its a c ≡ true = subst (λ d. SameContext d c) (sym same) (same-refl c) in
    rw (committed-cons a c contexts true its) (subst (λ d. IsOf k (with_index a.index d)) same one, are.1)
committed_held (j ∷ kept) (c ∷ contexts) (suc place) a k apart are at one =
    let other : is_its a c ≡ false = false_from_ne_true (is_its a c) (λ its. all_at (Apart c) contexts place a.context apart.0 at (same-sym a.context c its)) in
    rw (committed-cons a c contexts false other) (are.0, committed_held kept contexts place a k apart.1 are.1 at one)

-- A new one is appended.
pub committed_new : (kept : List KeptContext) (contexts : List Context) (a : Attempt) (k : KeptContext) → holds_none a contexts
    → AreOf kept contexts → IsOf k (with_index a.index a.context) → AreOf (kept ++ k ∷ []) (committed a contexts)
committed_new [] [] a k none are one = rw (committed-nil a) (one, tt)
committed_new [] (c ∷ contexts) a k none are one = absurd are
committed_new (j ∷ kept) [] a k none are one = absurd are
committed_new (j ∷ kept) (c ∷ contexts) a k none are one =
    let h = none_here a c contexts (is_its a c) refl none in
    rw (committed-cons a c contexts false h.0) (are.0, committed_new kept contexts a k h.1 are.1 one)

-- ---- in what is held

all_others : (a : Attempt) (c : Context) (contexts : List Context) → is_its a c ≡ true → AllByRecursion (Apart c) contexts
    → AllByRecursion (λ d. is_its a d ≡ false) contexts
all_others a c [] its apart = tt
all_others a c (d ∷ contexts) its apart =
    (false_from_ne_true (is_its a d) (λ also. apart.0 (same-trans c a.context d (same-sym a.context c its) also)), all_others a c contexts its apart.1)

stays : (a : Attempt) (P Q : Context → Type 0) (contexts : List Context) → ((c : Context) → is_its a c ≡ false → P c → Q c)
    → AllByRecursion (λ d. is_its a d ≡ false) contexts → AllByRecursion P contexts → AllByRecursion Q contexts
stays a P Q [] other others all = tt
stays a P Q (c ∷ contexts) other others all = (other c others.0 all.0, stays a P Q contexts other others.1 all.1)

-- What holds of each context, once one has one more index.
pub record Keeps (a : Attempt) (P Q : Context → Type 0) : Type 0 where
  pub other : (c : Context) → is_its a c ≡ false → P c → Q c
  pub its : (c : Context) → is_its a c ≡ true → P c → Q (with_index a.index c)

all_by : (a : Attempt) (P Q : Context → Type 0) (c : Context) (contexts : List Context) (its : Bool) → is_its a c ≡ its → Keeps a P Q
    → ((holds_none a contexts → Q (with_index a.index a.context)) → AllByRecursion Q (committed a contexts))
    → (holds_none a (c ∷ contexts) → Q (with_index a.index a.context)) → Pairs Apart (c ∷ contexts) → AllByRecursion P (c ∷ contexts)
    → AllByRecursion Q (committed_by a c contexts its)
all_by a P Q c contexts true e keeps rest new apart all =
    (keeps.its c e all.0, stays a P Q contexts keeps.other (all_others a c contexts e apart.0) all.1)
all_by a P Q c contexts false e keeps rest new apart all =
    (keeps.other c e all.0, rest (λ none. new (rw e none)))

pub committed_all : (a : Attempt) (P Q : Context → Type 0) (contexts : List Context) → Keeps a P Q
    → (holds_none a contexts → Q (with_index a.index a.context)) → Pairs Apart contexts → AllByRecursion P contexts
    → AllByRecursion Q (committed a contexts)
committed_all a P Q [] keeps new apart all = rw (committed-nil a) (new refl, tt)
committed_all a P Q (c ∷ contexts) keeps new apart all =
    rw (committed-cons a c contexts (is_its a c) refl)
    (all_by a P Q c contexts (is_its a c) refl keeps (λ no. committed_all a P Q contexts keeps no apart.1 all.1) new apart all)

-- Still no two are of one key.
distinct_by : (a : Attempt) (c : Context) (contexts : List Context) (its : Bool) → is_its a c ≡ its → Pairs Apart (committed a contexts)
    → Pairs Apart (c ∷ contexts) → Pairs Apart (committed_by a c contexts its)
distinct_by a c contexts true e rest apart = apart
distinct_by a c contexts false e rest apart = (
  committed_all a (Apart c) (Apart c) contexts (record { other = λ d _ far. far; its = λ d _ far. far })
      (λ none same. both_ways (is_its a c) e (same-sym c a.context same)) apart.1 apart.0,
  rest,
)

pub committed_distinct : (a : Attempt) (contexts : List Context) → Pairs Apart contexts → Pairs Apart (committed a contexts)
committed_distinct a [] apart = rw (committed-nil a) (tt, tt)
committed_distinct a (c ∷ contexts) apart =
    rw (committed-cons a c contexts (is_its a c) refl)
    (distinct_by a c contexts (is_its a c) refl (committed_distinct a contexts apart.1) apart)

-- ---- what a commit asks for, and keeps

-- An index that is fresh to a held context is fresh to its window.
pub fresh_kept : (k : KeptContext) (c : Context) (index : ℕ) → IsOf k c → freshness c.accepted index ≡ Fresh → freshness_at k.window index ≡ Fresh
fresh_kept k c index one fresh = freshness_same k.window c.accepted index one.window ∙ fresh

pub well_kept_held : (kept : List KeptContext) (contexts : List Context) (place : ℕ) (a : Attempt) (k : KeptContext) (room : ℕ) → IsWellKept kept room
    → AreOf kept contexts → slice_get contexts place ≡ Some a.context → IsOf k (with_index a.index a.context)
    → IsWellKept (set kept place k) room × AreOf (set kept place k) (committed a contexts)
well_kept_held kept contexts place a k room well are at one =
    let apart = distinct_held kept contexts are (pairs-from KeptApart kept well.distinct) in
    let after = committed_held kept contexts place a k apart are at one in (
      record {
        few = omega (arith, length-set kept place k, well.few);
        room_is = well.room_is;
        distinct = pairs-to KeptApart _ (distinct_kept _ (committed a contexts) after (committed_distinct a contexts apart));
      },
      after,
    )

pub well_kept_new : (kept : List KeptContext) (contexts : List Context) (a : Attempt) (k : KeptContext) (room : ℕ) → IsWellKept kept room
    → AreOf kept contexts → length kept < 512 → holds_none a contexts → IsOf k (with_index a.index a.context)
    → IsWellKept (kept ++ k ∷ []) room × AreOf (kept ++ k ∷ []) (committed a contexts)
well_kept_new kept contexts a k room well are few none one =
    let apart = distinct_held kept contexts are (pairs-from KeptApart kept well.distinct) in
    let after = committed_new kept contexts a k none are one in (
      record {
        few = omega (arith, length_push kept k);
        room_is = well.room_is;
        distinct = pairs-to KeptApart _ (distinct_kept _ (committed a contexts) after (committed_distinct a contexts apart));
      },
      after,
    )

-- a carried key's new context
new_by : (contexts : List Context) (ssrc : ℕ) (carried : Carried) (x : Context) (o : Option Context) → context_of contexts carried.spi ssrc carried.key ≡ o
    → new_of contexts ssrc carried ≡ Some x → (o ≡ None) × (new_context ssrc carried ≡ x)
new_by contexts ssrc carried x None e h = let same : Some (new_context ssrc carried) ≡ Some x = rw e at h in (refl, cc)
new_by contexts ssrc carried x (Some c) e h = let bad : None ≡ Some x = rw e at h in absurd (cc)

pub record IsNewFor (contexts : List Context) (ssrc : ℕ) (carried : Carried) (a : Attempt) : Type 0 where
  pub none : context_of contexts carried.spi ssrc carried.key ≡ None
  pub is : new_context ssrc carried ≡ a.context
  pub its : holds_none a contexts

pub is_new : (contexts : List Context) (ssrc : ℕ) (carried : Carried) (a : Attempt) → new_of contexts ssrc carried ≡ Some a.context
    → IsNewFor contexts ssrc carried a
is_new contexts ssrc carried a h =
    let p = new_by contexts ssrc carried a.context (context_of contexts carried.spi ssrc carried.key) refl h in
    record { none = p.0; is = p.1; its = subst (λ c. find (is_of c.spi c.ssrc c.key) contexts ≡ None) p.1 p.0 }

room_by : (contexts : List Context) (ssrc seq : ℕ) (carried : Carried) (P : List Attempt → Type 0) (full : Bool)
    → context_of contexts carried.spi ssrc carried.key ≡ None → is_full contexts carried.spi ssrc ≡ full
    → MatchResult (tries contexts ssrc seq (Some carried)) P (λ _. ⊥) → full ≡ false
unfolding tries
room_by contexts ssrc seq carried P true none e h = absurd (rw (none, e) at h)
room_by contexts ssrc seq carried P false none e h = refl

-- Where it is tried, there is room for it.
pub room_for : (contexts : List Context) (ssrc seq : ℕ) (carried : Carried) (P : List Attempt → Type 0)
    → context_of contexts carried.spi ssrc carried.key ≡ None → MatchResult (tries contexts ssrc seq (Some carried)) P (λ _. ⊥)
    → is_full contexts carried.spi ssrc ≡ false
room_for contexts ssrc seq carried P none h = room_by contexts ssrc seq carried P (is_full contexts carried.spi ssrc) none refl h

pub few_held : (contexts : List Context) (spi ssrc : ℕ) → is_full contexts spi ssrc ≡ false → length contexts < 512
few_held contexts spi ssrc h = leb-false 512 (length contexts) (or_parts (nat_le 512 (length contexts)) _ h).0
