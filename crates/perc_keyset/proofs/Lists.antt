-- Elements of lists, and lists whose elements differ in pairs.
use Rattle.std.proofs.Common.{◌≡◌, zero, suc, ◌<◌, Bool, true, false, List, [], ◌∷◌, ◌++◌, length, map, ◌⊎◌, ⊎_elim, inl, inr, refl, sym, ◌∙◌, arith, get_or, subst}
use Rattle.std.proofs.lemmas.Bool.{cases_Bool, cond-true, cond-false}
use Rattle.std.proofs.lemmas.List.{get_or_append_left, length-append}
use Rattle.std.proofs.lemmas.List.Elements.{All-nil, All-cons}
use Rattle.std.specs.List.{All, AllPairs, Contains, find}
use Rattle.std.specs.Prelude.{Some, None}

module _ {X : Type 0} where
  pub Contains-cons_cases : (x : X) (xs : List X) (y : X) → Contains (x ∷ xs) y → (x ≡ y) ⊎ Contains xs y
  Contains-cons_cases x xs y (zero, inside, at) = inl at
  Contains-cons_cases x xs y (suc k, inside, at) = inr (k, omega arith, at)

  pub Contains-here : (x : X) (xs : List X) → Contains (x ∷ xs) x
  Contains-here x xs = (0, omega arith, refl)

  pub Contains-later : (x : X) (xs : List X) (y : X) → Contains xs y → Contains (x ∷ xs) y
  Contains-later x xs y c = (suc c.0, omega arith, c.2)

  pub AllPairs-head : (R : X → X → Type 0) (x : X) (xs : List X) → AllPairs R (x ∷ xs) → All (R x) xs
  AllPairs-head R x xs h k d inside = h 0 (suc k) d (omega arith) (omega arith)

  pub AllPairs-tail : (R : X → X → Type 0) (x : X) (xs : List X) → AllPairs R (x ∷ xs) → AllPairs R xs
  AllPairs-tail R x xs h i j d below inside = h (suc i) (suc j) d (omega arith) (omega arith)

  pub AllPairs-front : (R : X → X → Type 0) (xs ys : List X) → AllPairs R (xs ++ ys) → AllPairs R xs
  AllPairs-front R xs ys h i j d below inside =
      let first : i < length xs = omega arith in
      let within : j < length (xs ++ ys) = omega (arith, length-append xs ys) in
      let fact : R (get_or (xs ++ ys) i d) (get_or (xs ++ ys) j d) = h i j d below within in
      rw (get_or_append_left xs ys d i first, get_or_append_left xs ys d j inside) at fact

  -- where nothing is found, nothing passes
  pub All-from_find : (p : X → Bool) (xs : List X) → find p xs ≡ None → All (λ x. p x ≡ false) xs
  All-from_find p [] none = All-nil (λ x. p x ≡ false)
  All-from_find p (x ∷ xs) none =
      ⊎_elim (λ (yes : p x ≡ true). let some = sym (cond-true (p x) (Some x) (find p xs) yes) ∙ none in absurd cc)
      (λ (no : p x ≡ false). All-cons (λ y. p y ≡ false) x xs no (All-from_find p xs (sym (cond-false (p x) (Some x) (find p xs) no) ∙ none)))
      (cases_Bool (p x))

-- what is mapped to an element
pub Contains-from_map : {X Y : Type 0} (f : X → Y) (xs : List X) (y : Y) → Contains (map f xs) y → (x : X) × Contains xs x × (f x ≡ y)
Contains-from_map f [] y c = absurd (omega arith)
Contains-from_map f (x ∷ xs) y c =
    ⊎_elim (λ (here : f x ≡ y). (x, Contains-here x xs, here))
    (λ (later : Contains (map f xs) y). let found = Contains-from_map f xs y later in (found.0, Contains-later x xs found.0 found.1, found.2))
    (Contains-cons_cases (f x) (map f xs) y c)

pub Contains-map : {X Y : Type 0} (f : X → Y) (xs : List X) (x : X) → Contains xs x → Contains (map f xs) (f x)
Contains-map f [] x c = absurd (omega arith)
Contains-map f (y ∷ xs) x c =
    ⊎_elim (λ (here : y ≡ x). subst (λ z. Contains (f y ∷ map f xs) (f z)) here (Contains-here (f y) (map f xs)))
    (λ (later : Contains xs x). Contains-later (f y) (map f xs) (f x) (Contains-map f xs x later))
    (Contains-cons_cases y xs x c)
