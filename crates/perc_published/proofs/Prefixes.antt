-- Beginnings of one list.
use Rattle.std.proofs.Common.{◌≡◌, ◌≤◌, Bool, true, false, List, [], ◌∷◌, ◌++◌, length, refl, ap, sym, ◌∙◌, ⊎_elim, inl, inr, arith, append_assoc, append-nil, nat_lt, subst}
use Rattle.std.proofs.lemmas.Bool.{cases_lt, cond-true, cond-false, ltb-false}
use mathlib.Core.List.{IsPrefix}
use Rattle.perc_keyset.specs.declared.Op.{Op}
use Rattle.perc_published.specs.Views.{InLine, longer}

pub prefix_self : {A : Type 0} (xs : List A) → IsPrefix xs xs
prefix_self xs = ([], append-nil xs)

pub prefix_none : {A : Type 0} (xs : List A) → IsPrefix [] xs
prefix_none xs = (xs, refl)

pub prefix_push : {A : Type 0} (xs ys : List A) (y : A) → IsPrefix xs ys → IsPrefix xs (ys ++ y ∷ [])
prefix_push xs ys y p = (p.0 ++ y ∷ [], sym (append_assoc xs p.0 (y ∷ [])) ∙ ap (λ zs. zs ++ y ∷ []) p.1)

pub prefix_trans : {A : Type 0} (xs ys zs : List A) → IsPrefix xs ys → IsPrefix ys zs → IsPrefix xs zs
prefix_trans xs ys zs p q = (p.0 ++ q.0, sym (append_assoc xs p.0 q.0) ∙ (ap (λ w. w ++ q.0) p.1 ∙ q.1))

-- of two beginnings of one list the shorter begins the longer
pub prefix_shorter : {A : Type 0} (xs ys zs : List A) → IsPrefix xs zs → IsPrefix ys zs → length xs ≤ length ys → IsPrefix xs ys
prefix_shorter [] ys zs p q le = (ys, refl)
prefix_shorter (x ∷ xs) [] zs p q le = absurd (omega arith)
prefix_shorter (x ∷ xs) (y ∷ ys) [] p q le = absurd (cc (p.1))
prefix_shorter (x ∷ xs) (y ∷ ys) (z ∷ zs) p q le =
    let heads : x ≡ y = cc (p.1, q.1) in
    let rest = prefix_shorter xs ys zs (p.0, cc (p.1)) (q.0, cc (q.1)) (omega arith) in
    (rest.0, cc (heads, rest.1))

-- a beginning as long as the whole is the whole
pub prefix_whole : {A : Type 0} (xs ys : List A) → IsPrefix xs ys → length ys ≡ length xs → ys ≡ xs
prefix_whole [] [] p same = refl
prefix_whole [] (y ∷ ys) p same = absurd (omega arith)
prefix_whole (x ∷ xs) [] p same = absurd (omega arith)
prefix_whole (x ∷ xs) (y ∷ ys) p same =
    let rest = prefix_whole xs ys (p.0, cc (p.1)) (omega arith) in cc (p.1, rest)

-- the longer of two beginnings of a list begins it, and begins with both
pub record IsLonger (xs ys history : List Op) : Type 0 where
  pub begins : IsPrefix (longer xs ys) history
  pub first : IsPrefix xs (longer xs ys)
  pub second : IsPrefix ys (longer xs ys)

pub longer_begins : (xs ys history : List Op) → IsPrefix xs history → IsPrefix ys history → IsPrefix (longer xs ys) history
longer_begins xs ys history p q = by_test (nat_lt (length xs) (length ys)) refl
  where
    by_test : (b : Bool) → nat_lt (length xs) (length ys) ≡ b → IsPrefix (longer xs ys) history
    by_test true is = rw is q
    by_test false is = rw is p

pub longer_is : (xs ys history : List Op) → IsPrefix xs history → IsPrefix ys history → IsLonger xs ys history
longer_is xs ys history p q = by_test (nat_lt (length xs) (length ys)) refl
  where
    by_test : (b : Bool) → nat_lt (length xs) (length ys) ≡ b → IsLonger xs ys history
    by_test true is =
        let at : longer xs ys ≡ ys = cond-true (nat_lt (length xs) (length ys)) ys xs is in
        record {
          begins = subst (λ zs. IsPrefix zs history) (sym at) q;
          first = subst (λ zs. IsPrefix xs zs) (sym at) (prefix_shorter xs ys history p q (grind (arith, is)));
          second = subst (λ zs. IsPrefix ys zs) (sym at) (prefix_self ys);
        }
    by_test false is =
        let at : longer xs ys ≡ xs = cond-false (nat_lt (length xs) (length ys)) ys xs is in
        record {
          begins = subst (λ zs. IsPrefix zs history) (sym at) p;
          first = subst (λ zs. IsPrefix xs zs) (sym at) (prefix_self xs);
          second = subst (λ zs. IsPrefix ys zs) (sym at) (prefix_shorter ys xs history q p (ltb-false (length xs) (length ys) is));
        }

-- of two beginnings of a list one begins the other
pub in_line : (xs ys history : List Op) → IsPrefix xs history → IsPrefix ys history → InLine xs ys
in_line xs ys history p q =
    ⊎_elim
    (λ less. inl (prefix_shorter xs ys history p q (omega (arith, less))))
    (λ less. inr (prefix_shorter ys xs history q p less))
    (cases_lt (length xs) (length ys))
