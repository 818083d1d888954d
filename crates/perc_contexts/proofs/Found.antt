-- The nearest index and the places that the code finds, and what they stand for.
use Rattle.std.proofs.Common.{◌≡◌, ℕ, ◌<◌, Bool, List, [], ◌∷◌, length, Option, Some, None, IfSome, IfNone, inl, inr, refl, ap, ◌∙◌, sym, arith}
use Rattle.std.specs.Prelude.{find, position, slice_get, MatchOption}
use Rattle.std.specs.List.{position_or_len}
use Rattle.std.proofs.lemmas.List.Folds.{find_at}
use Rattle.std.proofs.lemmas.Option.{slice_get_past, slice_get_cases}
use Rattle.std.proofs.lemmas.Bool.Decides.{nat_tests}
use Rattle.perc_contexts.specs.Kept.{KeptContext}
use Rattle.perc_contexts.specs.Places.{nearest_tries}
use Rattle.perc_window.specs.Index.{IsNearest, nearest}
use Rattle.perc_window.proofs.IndexLaws.{nearest_first, nearest_is, nearest_some}

nearest_missing : (highest : Option ℕ) (seq : ℕ) (o : Option ℕ) → seq < 65536 → nearest highest seq ≡ o
    → ((index : ℕ) → IsNearest highest seq index → ⊥) → None ≡ nearest highest seq
nearest_missing highest seq None fits e none = sym e
nearest_missing highest seq (Some index) fits e none = absurd (none index (nearest_some highest seq index fits e))

-- An answer that is the nearest index where there is one, and else none, is the defined one.
pub nearest_by : (highest : Option ℕ) (seq : ℕ) (answer : Option ℕ) → seq < 65536 → IfSome answer (IsNearest highest seq)
    → IfNone answer ((index : ℕ) → IsNearest highest seq index → ⊥) → answer ≡ nearest highest seq
nearest_by highest seq None fits found none = nearest_missing highest seq (nearest highest seq) fits refl none
nearest_by None seq (Some index) fits found none = ap Some found.near ∙ sym (nearest_first seq)
nearest_by (Some h) seq (Some index) fits found none = sym (nearest_is h seq index found.congruent found.near found.in_range)

-- No tries are made where no more are to be.
pub nearest_tries-none : (ssrc seq : ℕ) (kept : List KeptContext) → nearest_tries ssrc seq kept 0 ≡ []
nearest_tries-none ssrc seq [] = refl
nearest_tries-none ssrc seq (k ∷ kept) = refl

-- The first that passes a test stands at the first place that does.
pub find_by : {X : Type 0} (test : X → Bool) (xs : List X) (o : Option ℕ) → position test xs ≡ o
    → MatchOption o (find test xs ≡ None) (λ place. (x : X) × (find test xs ≡ Some x) × (slice_get xs place ≡ Some x))
find_by test xs None e = find_at test xs ∙ slice_get_past xs _ (grind (arith, nat_tests))
find_by test xs (Some place) e =
    let same : position_or_len test xs ≡ place = grind (arith, nat_tests) in
    let within : place < length xs = grind (arith, nat_tests) in
    elim (slice_get_cases xs place).1 [
      | inl h ↦ (h.0, find_at test xs ∙ (ap (λ n. slice_get xs n) same ∙ h.2), h.2)
      | inr h ↦ absurd (omega (arith, h.0))
    ]
