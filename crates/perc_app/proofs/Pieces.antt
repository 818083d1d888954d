-- Pieces written one after another.
use Rattle.std.proofs.Common.{◌≡◌, ℕ, ◌+◌, ◌<◌, ◌≤◌, List, [], ◌∷◌, ◌++◌, length, get_or, take, drop, map, Option, Some, None, IfSome, refl, sym, ap, subst, ◌∙◌, inl, inr, append_assoc, arith}
use Rattle.std.specs.List.{concat}
use Rattle.std.proofs.lemmas.List.{append-nil, map-append, take_more, take-append-drop}
use Rattle.std.proofs.lemmas.List.Folds.{concat-append}
use Rattle.perc_base.specs.Outside.{HasRisen}
use Rattle.perc_base.specs.Written.{IsTold, Tells}

-- one piece more
pub joined_more : {X : Type 0} (f : X → List ℕ) (xs : List X) (i : ℕ) (d : X) → i < length xs → concat (map f (take (i + 1) xs)) ≡ concat (map f (take i xs)) ++ f (get_or xs i d)
joined_more f xs i d h =
    ap (λ ys. concat (map f ys)) (take_more xs i d h)
    ∙ ap concat (map-append f (take i xs) (get_or xs i d ∷ []))
    ∙ concat-append (map f (take i xs)) (f (get_or xs i d) ∷ [])
    ∙ ap (λ y. concat (map f (take i xs)) ++ y) (append-nil (f (get_or xs i d)))

-- all pieces are those so far, this one, and those behind it
pub joined_around : {X : Type 0} (f : X → List ℕ) (xs : List X) (i : ℕ) (d : X) → i < length xs
    → concat (map f xs) ≡ concat (map f (take i xs)) ++ (f (get_or xs i d) ++ concat (map f (drop (i + 1) xs)))
joined_around f xs i d h =
    ap (λ ys. concat (map f ys)) (sym (take-append-drop (i + 1) xs))
    ∙ ap concat (map-append f (take (i + 1) xs) (drop (i + 1) xs))
    ∙ concat-append (map f (take (i + 1) xs)) (map f (drop (i + 1) xs))
    ∙ ap (λ y. y ++ concat (map f (drop (i + 1) xs))) (joined_more f xs i d h)
    ∙ append_assoc (concat (map f (take i xs))) (f (get_or xs i d)) (concat (map f (drop (i + 1) xs)))

-- a count that rose rose since before
pub risen_since : (a b c : ℕ) → a ≤ b → HasRisen b c → HasRisen a c
risen_since a b c h r = omega arith

-- what a sink has after a piece of which a beginning was written, behind a front that was written
pub told_in_front : (old mid new : Option (List ℕ)) (front piece back whole : List ℕ) (a b c : ℕ)
    → IfSome old (λ before. mid ≡ Some (before ++ front)) → Tells mid new piece b c → a ≤ b → HasRisen b c
    → whole ≡ front ++ (piece ++ back) → Tells old new whole a c
told_in_front None mid new front piece back whole a b c m t le r e = tt
told_in_front (Some before) mid new front piece back whole a b c m t le r e =
    let told : Tells (Some (before ++ front)) new piece b c = subst (λ o. Tells o new piece b c) m t in
    let inner : IsTold (before ++ front) told.0 piece b c = told.2 in (
      told.0,
      told.1,
      record {
        written = front ++ inner.written;
        rest = inner.rest ++ back;
        text = e ∙ ap (λ p. front ++ (p ++ back)) inner.text ∙ ap (λ p. front ++ p) (append_assoc inner.written inner.rest back) ∙ sym (append_assoc front inner.written (inner.rest ++ back));
        out = inner.out ∙ append_assoc before front inner.written;
        whole = inr (risen_since a b c le r);
      },
    )

-- a sink has a piece more
pub told_more : (old mid new : Option (List ℕ)) (front piece more : List ℕ) → IfSome old (λ before. mid ≡ Some (before ++ front))
    → IfSome mid (λ before. new ≡ Some (before ++ piece)) → more ≡ front ++ piece → IfSome old (λ before. new ≡ Some (before ++ more))
told_more None mid new front piece more m w e = tt
told_more (Some before) mid new front piece more m w e =
    subst (λ o. IfSome o (λ b. new ≡ Some (b ++ piece))) m w ∙ ap Some (append_assoc before front piece ∙ ap (λ p. before ++ p) (sym e))
