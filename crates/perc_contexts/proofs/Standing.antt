-- What is kept stands for what is held, context by context.
use Rattle.std.proofs.Common.{◌≡◌, ℕ, ◌+◌, ◌<◌, suc, Bool, true, false, cond, not, nat_lt, reverse, get_or, subst, zero, List, [], ◌∷◌, ◌++◌, length, filter, Option, Some, None, refl, ap, ◌∙◌, sym, arith}
use Rattle.std.specs.Prelude.{◌==◌, ◌&&◌, count_by, position, slice_get, IfSome}
use Rattle.std.proofs.lemmas.Option.{slice_get_within}
use Rattle.std.specs.List.{position_or_len}
use Rattle.std.specs.Str.{bytes_eq}
use Rattle.std.proofs.lemmas.List.{reverse-append}
use Rattle.std.proofs.lemmas.List.Sums.{length-filter}
use Rattle.std.proofs.lemmas.List.Filters.{length-filter_both}
use Rattle.std.proofs.lemmas.List.Kept.{AllPairs-filter}
use Rattle.perc_contexts.specs.Receiving.{is_of, Context, Receiving, is_live, still_live, renewed}
use Rattle.perc_contexts.specs.Kept.{is_kept_of, KeptContext, Kept, IsOf, AreOf, StandsFor, SameKept, IsWellKept}

-- ---- what stays of the contexts

-- Those that pass a test are kept as well.
pub well_kept-filter : (test : KeptContext → Bool) (kept : List KeptContext) (room : ℕ) → IsWellKept kept room → IsWellKept (filter test kept) room
well_kept-filter test kept room well = record {
  few = omega (arith, length-filter_both test (λ k. not (test k)) (λ _. refl) kept, well.few);
  room_is = well.room_is;
  distinct = AllPairs-filter (λ j k. SameKept j k → ⊥) test kept well.distinct;
}

-- by a test that both pass or neither
are_of-cond : (p q : Bool) (k : KeptContext) (c : Context) (kept : List KeptContext) (contexts : List Context) → p ≡ q → IsOf k c
    → AreOf kept contexts → AreOf (cond p (k ∷ kept) kept) (cond q (c ∷ contexts) contexts)
are_of-cond true true k c kept contexts same one rest = (one, rest)
are_of-cond false false k c kept contexts same one rest = rest
are_of-cond true false k c kept contexts same one rest = absurd (cc)
are_of-cond false true k c kept contexts same one rest = absurd (cc)

-- Two tests agree where what is kept stands for what is held.
abbrev pub Agree : (KeptContext → Bool) → (Context → Bool) → Type 0
Agree p q = (k : KeptContext) (c : Context) → IsOf k c → p k ≡ q c

pub are_of-filter : (p : KeptContext → Bool) (q : Context → Bool) → Agree p q → (kept : List KeptContext) (contexts : List Context)
    → AreOf kept contexts → AreOf (filter p kept) (filter q contexts)
are_of-filter p q agree [] [] are = tt
are_of-filter p q agree [] (c ∷ contexts) are = absurd are
are_of-filter p q agree (k ∷ kept) [] are = absurd are
are_of-filter p q agree (k ∷ kept) (c ∷ contexts) are =
    are_of-cond (p k) (q c) k c _ _ (agree k c are.0) are.0 (are_of-filter p q agree kept contexts are.1)

pub are_of-length : (kept : List KeptContext) (contexts : List Context) → AreOf kept contexts → length kept ≡ length contexts
are_of-length [] [] are = refl
are_of-length [] (c ∷ contexts) are = absurd are
are_of-length (k ∷ kept) [] are = absurd are
are_of-length (k ∷ kept) (c ∷ contexts) are = ap (λ n. suc n) (are_of-length kept contexts are.1)

-- As many pass, and the first that does stands at the same place.
pub are_of-count : (p : KeptContext → Bool) (q : Context → Bool) → Agree p q → (kept : List KeptContext) (contexts : List Context)
    → AreOf kept contexts → count_by p kept ≡ count_by q contexts
are_of-count p q agree kept contexts are =
    sym (length-filter p kept) ∙ (are_of-length _ _ (are_of-filter p q agree kept contexts are) ∙ length-filter q contexts)

same_place : (p : KeptContext → Bool) (q : Context → Bool) → Agree p q → (kept : List KeptContext) (contexts : List Context)
    → AreOf kept contexts → position_or_len p kept ≡ position_or_len q contexts
same_place p q agree [] [] are = refl
same_place p q agree [] (c ∷ contexts) are = absurd are
same_place p q agree (k ∷ kept) [] are = absurd are
same_place p q agree (k ∷ kept) (c ∷ contexts) are =
    let test = agree k c are.0 in let rest = same_place p q agree kept contexts are.1 in
    λ i. cond (not (test i)) (1 + rest i) 0

pub are_of-position : (p : KeptContext → Bool) (q : Context → Bool) → Agree p q → (kept : List KeptContext) (contexts : List Context)
    → AreOf kept contexts → position p kept ≡ position q contexts
are_of-position p q agree kept contexts are =
    let at = same_place p q agree kept contexts are in let long = are_of-length kept contexts are in
    λ i. cond (nat_lt (at i) (long i)) (Some (at i)) None

pub are_of-append : (kept more_kept : List KeptContext) (contexts more : List Context) → AreOf kept contexts → AreOf more_kept more
    → AreOf (kept ++ more_kept) (contexts ++ more)
are_of-append [] more_kept [] more are rest = rest
are_of-append [] more_kept (c ∷ contexts) more are rest = absurd are
are_of-append (k ∷ kept) more_kept [] more are rest = absurd are
are_of-append (k ∷ kept) more_kept (c ∷ contexts) more are rest = (are.0, are_of-append kept more_kept contexts more are.1 rest)

pub are_of-reverse : (kept : List KeptContext) (contexts : List Context) → AreOf kept contexts → AreOf (reverse kept) (reverse contexts)
are_of-reverse [] [] are = tt
are_of-reverse [] (c ∷ contexts) are = absurd are
are_of-reverse (k ∷ kept) [] are = absurd are
are_of-reverse (k ∷ kept) (c ∷ contexts) are =
    rw (reverse-append (k ∷ []) kept, reverse-append (c ∷ []) contexts)
    (are_of-append (reverse kept) (k ∷ []) (reverse contexts) (c ∷ []) (are_of-reverse kept contexts are.1) (are.0, tt))

-- the tests by which contexts are looked for
pub agree_of : (spi ssrc : ℕ) (key : List ℕ) → Agree (is_kept_of spi ssrc key) (is_of spi ssrc key)
agree_of spi ssrc key k c one = λ i. (one.spi i == spi) && (one.ssrc i == ssrc) && bytes_eq (one.key i) key

pub agree_under : (spi ssrc : ℕ) → Agree (λ k. k.spi == spi && k.ssrc == ssrc) (λ c. c.spi == spi && c.ssrc == ssrc)
agree_under spi ssrc k c one = λ i. (one.spi i == spi) && (one.ssrc i == ssrc)

-- What is kept once an SPI was added stands for what is held then.
pub renewed_stands : (kept : Kept) (held : Receiving) (spi : ℕ) (live : List ℕ) (contexts : List KeptContext)
    → StandsFor kept held → live ≡ still_live kept.live ++ spi ∷ [] → contexts ≡ filter (λ k. is_live (still_live kept.live) k.spi) kept.contexts
    → StandsFor (record { live = live; contexts = contexts }) (renewed spi held)
renewed_stands kept held spi live contexts stands live_is contexts_is = rw (live_is, contexts_is) record {
  live = ap (λ l. still_live l ++ spi ∷ []) stands.live;
  contexts = rw stands.live (are_of-filter _ _ (λ k c one. ap (λ spi. is_live (still_live held.live) spi) one.spi) kept.contexts held.contexts stands.contexts);
}

-- ---- at a place

pub are_of-at : (kept : List KeptContext) (contexts : List Context) (place : ℕ) (k : KeptContext) (c : Context) → AreOf kept contexts
    → k ≡ get_or kept place k → place < length kept → slice_get contexts place ≡ Some c → IsOf k c
are_of-at [] contexts place k c are read within at = absurd (omega arith)
are_of-at (j ∷ kept) [] place k c are read within at = absurd are
are_of-at (j ∷ kept) (d ∷ contexts) zero k c are read within at =
    let same : d ≡ c = cc in subst (λ x. IsOf k x) same (subst (λ x. IsOf x d) (sym read) are.0)
are_of-at (j ∷ kept) (d ∷ contexts) (suc place) k c are read within at = are_of-at kept contexts place k c are.1 read (omega arith) at

pub at_within : (kept : List KeptContext) (contexts : List Context) (place : ℕ) (c : Context) → AreOf kept contexts
    → slice_get contexts place ≡ Some c → place < length kept
at_within kept contexts place c are at = rw (are_of-length kept contexts are) (slice_get_within contexts place c at)

pub key_at : (kept : List KeptContext) (contexts : List Context) (place : ℕ) (k : KeptContext) (o : Option Context) → AreOf kept contexts
    → k ≡ get_or kept place k → place < length kept → slice_get contexts place ≡ o → IfSome o (λ c. (k.spi ≡ c.spi) × (k.key ≡ c.key))
key_at kept contexts place k None are read within at = tt
key_at kept contexts place k (Some c) are read within at = let one = are_of-at kept contexts place k c are read within at in (one.spi, one.key)
