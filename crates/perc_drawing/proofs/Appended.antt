-- Octets that are appended, one after another.
use Rattle.std.proofs.Common.{◌≡◌, ℕ, ◌+◌, ◌<◌, List, [], ◌∷◌, ◌++◌, length, get_or, take}
use Rattle.std.proofs.Common.{sym, ap, ◌∙◌, append_assoc, append-nil}
use Rattle.std.specs.List.{flat_map}
use Rattle.std.proofs.lemmas.List.{take_more}
use Rattle.std.proofs.lemmas.Grind.{flat_map-append}

pub two_on : (old a new s t : List ℕ) → a ≡ old ++ s → new ≡ a ++ t → new ≡ old ++ (s ++ t)
two_on old a new s t ha hn = hn ∙ ap (λ l. l ++ t) ha ∙ append_assoc old s t

pub three_on : (old a b new s t u : List ℕ) → a ≡ old ++ s → b ≡ a ++ t → new ≡ b ++ u → new ≡ old ++ (s ++ t ++ u)
three_on old a b new s t u ha hb hn = two_on old b new (s ++ t) u (two_on old a b s t ha hb) hn

pub four_on : (old a b c new s t u v : List ℕ) → a ≡ old ++ s → b ≡ a ++ t → c ≡ b ++ u
    → new ≡ c ++ v → new ≡ old ++ (s ++ t ++ u ++ v)
four_on old a b c new s t u v ha hb hc hn = two_on old c new (s ++ t ++ u) v (three_on old a b c s t u ha hb hc) hn

pub five_on : (old a b c d new s t u v w : List ℕ) → a ≡ old ++ s → b ≡ a ++ t → c ≡ b ++ u
    → d ≡ c ++ v → new ≡ d ++ w → new ≡ old ++ (s ++ t ++ u ++ v ++ w)
five_on old a b c d new s t u v w ha hb hc hd hn = two_on old d new (s ++ t ++ u ++ v) w (four_on old a b c d s t u v ha hb hc hd) hn

-- one more of a list is appended
pub one_more_on : {X : Type 0} (f : X → List ℕ) (xs : List X) (i : ℕ) (d : X) (old before new : List ℕ)
    → i < length xs → before ≡ old ++ flat_map f (take i xs) → new ≡ before ++ f (get_or xs i d)
    → new ≡ old ++ flat_map f (take (i + 1) xs)
one_more_on f xs i d old before new h hb hn =
    two_on old before new (flat_map f (take i xs)) (f (get_or xs i d)) hb hn
    ∙ ap (λ l. old ++ (flat_map f (take i xs) ++ l)) (sym (append-nil (f (get_or xs i d))))
    ∙ ap (λ l. old ++ l) (sym (flat_map-append f (take i xs) (get_or xs i d ∷ [])))
    ∙ ap (λ ys. old ++ flat_map f ys) (sym (take_more xs i d h))
