-- Words that are one given word.
use Rattle.std.proofs.Common.{◌≡◌, ℕ, ◌<◌, ◌≤◌, Bool, true, List, [], ◌∷◌, length, get_or, map, refl, sym, ap, ◌∙◌, subst, arith}
use Rattle.std.specs.Str.{bytes_eq}
use Rattle.std.specs.List.{concat}
use Rattle.std.proofs.lemmas.Slice.Eq.{bytes_eq-Decides}

-- the first of a list's one element
head_or : List ℕ → List (List ℕ) → List ℕ
head_or d [] = d
head_or d (x ∷ xs) = x

-- a list of one word spells the text exactly where the word does
pub one_word : {X : Type 0} (f : X → List ℕ) (xs : List X) (x : X) (word text : List ℕ) (r : Bool) → 1 ≤ length xs → length xs < 2 → x ≡ get_or xs 0 x
    → word ≡ f x → r ≡ bytes_eq word text → (r ≡ true → map f xs ≡ text ∷ []) × (map f xs ≡ text ∷ [] → r ≡ true)
one_word f [] x word text r low high at w e = absurd (omega arith)
one_word f (y ∷ z ∷ zs) x word text r low high at w e = absurd (omega arith)
one_word f (y ∷ []) x word text r low high at w e = (
  λ h. ap (λ t. t ∷ []) (ap f (sym at) ∙ sym w ∙ (bytes_eq-Decides word text).0 (sym e ∙ h)),
  λ h. e ∙ (bytes_eq-Decides word text).1 (w ∙ ap f at ∙ first h),
)
  where
    first : f y ∷ [] ≡ text ∷ [] → f y ≡ text
    first h = cc
