-- Contexts of one key of one sender under one SPI, and lists in which no two are.
use Rattle.std.proofs.Common.{◌≡◌, ℕ, suc, zero, true, List, [], ◌∷◌, Some, refl, ◌∙◌, sym, subst, arith}
use Rattle.std.specs.Prelude.{◌==◌, ◌&&◌, All, AllPairs, slice_get}
use Rattle.std.specs.List.{AllByRecursion}
use Rattle.std.specs.Str.{bytes_eq}
use Rattle.std.proofs.lemmas.Bool.{and_parts, and_from, eqb-true, eq-eqb}
use Rattle.std.proofs.lemmas.Slice.Eq.{bytes_eq-Decides}
use Rattle.std.proofs.lemmas.List.Elements.{All-from_recursion, recursion_from_All}
use Rattle.std.proofs.lemmas.List.Kept.{AllPairs-cons}
use Rattle.perc_contexts.specs.Receiving.{Context, is_of}
use Rattle.perc_contexts.specs.Kept.{KeptContext, IsOf, AreOf, SameKept}
use Rattle.perc_contexts.specs.History.{SameContext}

-- ---- one key of one sender under one SPI

pub is_of-parts : (spi ssrc : ℕ) (key : List ℕ) (c : Context) → is_of spi ssrc key c ≡ true → (c.spi ≡ spi) × (c.ssrc ≡ ssrc) × (c.key ≡ key)
is_of-parts spi ssrc key c h =
    let outer = and_parts (c.spi == spi && c.ssrc == ssrc) (bytes_eq c.key key) h in
    let inner = and_parts (c.spi == spi) (c.ssrc == ssrc) outer.0 in
    (eqb-true c.spi spi inner.0, eqb-true c.ssrc ssrc inner.1, (bytes_eq-Decides c.key key).0 outer.1)

pub is_of-made : (spi ssrc : ℕ) (key : List ℕ) (c : Context) → c.spi ≡ spi → c.ssrc ≡ ssrc → c.key ≡ key → is_of spi ssrc key c ≡ true
is_of-made spi ssrc key c e f g =
    and_from (c.spi == spi && c.ssrc == ssrc) (bytes_eq c.key key)
    (and_from (c.spi == spi) (c.ssrc == ssrc) (eq-eqb c.spi spi e) (eq-eqb c.ssrc ssrc f)) ((bytes_eq-Decides c.key key).1 g)

pub same-refl : (c : Context) → SameContext c c
same-refl c = is_of-made c.spi c.ssrc c.key c refl refl refl

pub same-sym : (c d : Context) → SameContext c d → SameContext d c
same-sym c d h = let p = is_of-parts c.spi c.ssrc c.key d h in is_of-made d.spi d.ssrc d.key c (sym p.0) (sym p.1) (sym p.2)

pub same-trans : (a b c : Context) → SameContext a b → SameContext b c → SameContext a c
same-trans a b c h g =
    let p = is_of-parts a.spi a.ssrc a.key b h in let q = is_of-parts b.spi b.ssrc b.key c g in
    is_of-made a.spi a.ssrc a.key c (q.0 ∙ p.0) (q.1 ∙ p.1) (q.2 ∙ p.2)

-- ---- lists in which no two are related

abbrev pub Pairs : {X : Type 0} → (X → X → Type 0) → List X → Type 0
Pairs R [] = Unit {0}
Pairs R (x ∷ xs) = AllByRecursion (R x) xs × Pairs R xs

all_pairs-tail : {X : Type 0} (R : X → X → Type 0) (x : X) (xs : List X) → AllPairs R (x ∷ xs) → AllPairs R xs
all_pairs-tail R x xs h = λ i j d below within. h (suc i) (suc j) d (omega arith) (omega arith)

all_pairs-head : {X : Type 0} (R : X → X → Type 0) (x : X) (xs : List X) → AllPairs R (x ∷ xs) → All (R x) xs
all_pairs-head R x xs h = λ k d within. h 0 (suc k) d (omega arith) (omega arith)

pub pairs-from : {X : Type 0} (R : X → X → Type 0) (xs : List X) → AllPairs R xs → Pairs R xs
pairs-from R [] h = tt
pairs-from R (x ∷ xs) h =
    (recursion_from_All (R x) xs (all_pairs-head R x xs h), pairs-from R xs (all_pairs-tail R x xs h))

pub pairs-to : {X : Type 0} (R : X → X → Type 0) (xs : List X) → Pairs R xs → AllPairs R xs
pairs-to R [] h = λ i j d below within. absurd (omega arith)
pairs-to R (x ∷ xs) h = AllPairs-cons R x xs (All-from_recursion (R x) xs h.0) (pairs-to R xs h.1)

pub all_at : {X : Type 0} (P : X → Type 0) (xs : List X) (place : ℕ) (x : X) → AllByRecursion P xs → slice_get xs place ≡ Some x → P x
all_at P [] place x all at = absurd (cc)
all_at P (y ∷ xs) zero x all at = let e : y ≡ x = cc in subst P e all.0
all_at P (y ∷ xs) (suc place) x all at = all_at P xs place x all.1 at

-- ---- the same of what is kept

abbrev pub Apart : Context → Context → Type 0
Apart c d = SameContext c d → ⊥

abbrev pub KeptApart : KeptContext → KeptContext → Type 0
KeptApart j k = SameKept j k → ⊥

same_kept : (j k : KeptContext) (c d : Context) → IsOf j c → IsOf k d → is_of c.spi c.ssrc c.key d ≡ true → SameKept j k
same_kept j k c d one other h =
    (λ i. (other.spi i == one.spi i) && (other.ssrc i == one.ssrc i) && bytes_eq (other.key i) (one.key i)) ∙ h

same_held : (j k : KeptContext) (c d : Context) → IsOf j c → IsOf k d → SameKept j k → SameContext c d
same_held j k c d one other h =
    sym (λ i. (other.spi i == one.spi i) && (other.ssrc i == one.ssrc i) && bytes_eq (other.key i) (one.key i)) ∙ h

apart_held : (k : KeptContext) (c : Context) (kept : List KeptContext) (contexts : List Context) → IsOf k c → AreOf kept contexts
    → AllByRecursion (KeptApart k) kept → AllByRecursion (Apart c) contexts
apart_held k c [] [] one are h = tt
apart_held k c [] (d ∷ contexts) one are h = absurd are
apart_held k c (j ∷ kept) [] one are h = absurd are
apart_held k c (j ∷ kept) (d ∷ contexts) one are h =
    (λ same. h.0 (same_kept k j c d one are.0 same), apart_held k c kept contexts one are.1 h.1)

apart_kept : (k : KeptContext) (c : Context) (kept : List KeptContext) (contexts : List Context) → IsOf k c → AreOf kept contexts
    → AllByRecursion (Apart c) contexts → AllByRecursion (KeptApart k) kept
apart_kept k c [] [] one are h = tt
apart_kept k c [] (d ∷ contexts) one are h = absurd are
apart_kept k c (j ∷ kept) [] one are h = absurd are
apart_kept k c (j ∷ kept) (d ∷ contexts) one are h =
    (λ same. h.0 (same_held k j c d one are.0 same), apart_kept k c kept contexts one are.1 h.1)

-- No two that are held are of one key, where no two that are kept are, and the other way round.
pub distinct_held : (kept : List KeptContext) (contexts : List Context) → AreOf kept contexts → Pairs KeptApart kept → Pairs Apart contexts
distinct_held [] [] are h = tt
distinct_held [] (c ∷ contexts) are h = absurd are
distinct_held (k ∷ kept) [] are h = absurd are
distinct_held (k ∷ kept) (c ∷ contexts) are h = (apart_held k c kept contexts are.0 are.1 h.0, distinct_held kept contexts are.1 h.1)

pub distinct_kept : (kept : List KeptContext) (contexts : List Context) → AreOf kept contexts → Pairs Apart contexts → Pairs KeptApart kept
distinct_kept [] [] are h = tt
distinct_kept [] (c ∷ contexts) are h = absurd are
distinct_kept (k ∷ kept) [] are h = absurd are
distinct_kept (k ∷ kept) (c ∷ contexts) are h = (apart_kept k c kept contexts are.0 are.1 h.0, distinct_kept kept contexts are.1 h.1)
