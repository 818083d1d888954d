-- The words `make N`, and what they come to.
use Rattle.std.proofs.Common.{◌≡◌, ℕ, ◌+◌, ◌-◌, ◌^◌, ◌<◌, ◌≤◌, ◌⊎◌, List, [], ◌∷◌, length, get_or, map, Option, Some, None, IfSome, inl, inr, refl, sym, ap, ◌∙◌, subst, arith}
use Rattle.std.specs.Prelude.{min}
use Rattle.std.proofs.lemmas.Option.{same_Some}
use Rattle.perc_base.specs.Outside.{HasRisen}
use Rattle.perc_word.specs.Word.{number_in}
use Rattle.perc_replay.specs.declared.run.ReplayEnd.{ReplayEnd}
use Rattle.perc_replay.specs.declared.run.ReplayEnd.TheVariants.{Done, Script, ReadFault, WriteFault, Foreign, Memory}
use Rattle.perc_app.specs.Made.{IsMake, MakeEnds, Summed, most_rounds}
use Rattle.perc_app.specs.Run.{HasNoFault}
use Rattle.perc_app.specs.Status.{status_of}

-- a list of two words
pub two_words : {X : Type 0} (f : X → List ℕ) (xs : List X) (x y : X) (word count : List ℕ) → 2 ≤ length xs → length xs < 3 → x ≡ get_or xs 0 x → y ≡ get_or xs 1 y
    → word ≡ f x → count ≡ f y → word ∷ count ∷ [] ≡ map f xs
two_words f [] x y word count low high first second a b = absurd (omega arith)
two_words f (p ∷ []) x y word count low high first second a b = absurd (omega arith)
two_words f (p ∷ q ∷ r ∷ xs) x y word count low high first second a b = absurd (omega arith)
two_words f (p ∷ q ∷ []) x y word count low high first second a b = λ i. (a ∙ ap f first) i ∷ (b ∙ ap f second) i ∷ []

second_or : List (List ℕ) → List ℕ
second_or [] = []
second_or (x ∷ []) = []
second_or (x ∷ y ∷ ys) = y

-- They ask for one number of rounds.
pub one_make : (words : List (List ℕ)) (n m : ℕ) → IsMake words n → IsMake words m → n ≡ m
unfolding second_or
one_make words n m a b =
    let word = ap second_or (sym a.words_are ∙ b.words_are) in same_Some n m (sym a.number ∙ ap (number_in most_rounds) word ∙ b.number)

no_rise : (old new : ℕ) → HasRisen old new → HasNoFault old new → ⊥
no_rise old new risen none = grind (arith, none.same, none.short_of_end)

summed_by : (rounds : ℕ) (before : List ℕ) (end : ReplayEnd) (after : List ℕ) (old new : ℕ) → MakeEnds rounds before end after → (end ≡ WriteFault → HasRisen old new)
    → HasNoFault old new → Summed rounds before (status_of end) after
summed_by rounds before (Done counts) after old new ends risen none = inl (refl, ends.0, ends.1)
summed_by rounds before (Script line reason) after old new ends risen none = absurd ends
summed_by rounds before ReadFault after old new ends risen none = absurd ends
summed_by rounds before WriteFault after old new ends risen none = absurd (no_rise old new (risen refl) none)
summed_by rounds before (Foreign line name) after old new ends risen none = inr (inl (refl, record { line = line; name = name; end = ends.0 }, ends.1))
summed_by rounds before Memory after old new ends risen none = inr (inr (refl, ends))

-- where no write failed, what was written
pub summed_at : (rounds n : ℕ) (written now : Option (List ℕ)) (end : ReplayEnd) (status old new : ℕ) → n ≡ rounds → status ≡ status_of end
    → IfSome written (λ before. (after : List ℕ) × (now ≡ Some after) × MakeEnds n before end after) → (end ≡ WriteFault → HasRisen old new) → HasNoFault old new
    → IfSome written (λ before. (after : List ℕ) × (now ≡ Some after) × Summed rounds before status after)
summed_at rounds n None now end status old new same told ends risen none = tt
summed_at rounds n (Some before) now end status old new same told ends risen none = (
  ends.0,
  ends.1,
  subst (λ (s : ℕ). Summed rounds before s ends.0) (sym told)
      (subst (λ (k : ℕ). Summed k before (status_of end) ends.0) same (summed_by n before end ends.0 old new ends.2 risen none)),
)
