-- Lists that mirror one another, and lists by their places.
use Rattle.std.proofs.Common.{◌≡◌, ℕ, zero, suc, ◌+◌, ◌≤◌, ◌<◌, Bool, List, [], ◌∷◌, ◌++◌, length, take, Some, slice_get, refl, sym, ap, subst, ◌∙◌, arith}
use Rattle.std.specs.Prelude.{All, count_by, filter, ◌||◌, find, Option}
use Rattle.std.specs.List.{list_any}
use Rattle.std.proofs.lemmas.List.{length-append, take_more}
use Rattle.std.proofs.lemmas.List.Elements.{All-get_or, filter-append}
use Rattle.std.proofs.lemmas.List.Sums.{length-filter}
use Rattle.std.proofs.lemmas.Option.{get_or_from_slice_get, slice_get_within}
use Rattle.perc_member.specs.Each.{MirrorEach}

pub all_at : {X : Type 0} (P : X → Type 0) (xs : List X) (k : ℕ) (x : X) → All P xs → slice_get xs k ≡ Some x → P x
all_at P xs k x all at = subst P (get_or_from_slice_get xs k x x at) (All-get_or P xs k x (slice_get_within xs k x at) all)

pub count-append : {X : Type 0} (p : X → Bool) (xs ys : List X) → count_by p (xs ++ ys) ≡ count_by p xs + count_by p ys
count-append {X} p xs ys =
    omega (arith, length-filter p (xs ++ ys), length-filter p xs, length-filter p ys, length-append (filter p xs) (filter p ys), ap (λ (zs : List X). length zs) (filter-append p xs ys))

pub slice_get_some : {X : Type 0} (xs : List X) (k : ℕ) → k < length xs → (x : X) × (slice_get xs k ≡ Some x)
slice_get_some [] k h = absurd (omega arith)
slice_get_some (x ∷ xs) zero h = (x, refl)
slice_get_some (x ∷ xs) (suc k) h = slice_get_some xs k (omega arith)

pub take_push : {X : Type 0} (xs : List X) (i : ℕ) (x : X) → slice_get xs i ≡ Some x → take (i + 1) xs ≡ take i xs ++ x ∷ []
take_push {X} xs i x at = take_more xs i x (slice_get_within xs i x at) ∙ ap (λ (y : X). take i xs ++ y ∷ []) (get_or_from_slice_get xs i x x at)

-- ---- one by one

pub each_head : {C D : Type 0} (M : C → D → Type 0) (c : C) (d : D) (cs : List C) (ds : List D) → MirrorEach M (c ∷ cs) (d ∷ ds) → M c d
each_head M c d cs ds m = m.each 0 c d refl refl

pub each_tail : {C D : Type 0} (M : C → D → Type 0) (c : C) (d : D) (cs : List C) (ds : List D) → MirrorEach M (c ∷ cs) (d ∷ ds) → MirrorEach M cs ds
each_tail M c d cs ds m = record { count = omega (arith, m.count); each = λ k x y f g. m.each (suc k) x y f g }

pub each_cons : {C D : Type 0} (M : C → D → Type 0) (c : C) (d : D) (cs : List C) (ds : List D) → M c d → MirrorEach M cs ds → MirrorEach M (c ∷ cs) (d ∷ ds)
each_cons {C} {D} M c d cs ds here m = record { count = ap suc m.count; each = at }
  where
    at : (k : ℕ) (x : C) (y : D) → slice_get (c ∷ cs) k ≡ Some x → slice_get (d ∷ ds) k ≡ Some y → M x y
    at zero x y f g =
        let e : c ≡ x = cc in
        let h : d ≡ y = cc in
        subst (λ (v : C). M v y) e (subst (λ (w : D). M c w) h here)
    at (suc k) x y f g = m.each k x y f g

pub each_nil : {C D : Type 0} (M : C → D → Type 0) → MirrorEach M [] []
each_nil M = record { count = refl; each = λ k x y f g. absurd cc }

pub each_push : {C D : Type 0} (M : C → D → Type 0) (cs : List C) (ds : List D) (c : C) (d : D) → MirrorEach M cs ds → M c d → MirrorEach M (cs ++ c ∷ []) (ds ++ d ∷ [])
each_push M [] [] c d m here = each_cons M c d [] [] here (each_nil M)
each_push M [] (y ∷ ds) c d m here = absurd (omega (arith, m.count))
each_push M (x ∷ cs) [] c d m here = absurd (omega (arith, m.count))
each_push M (x ∷ cs) (y ∷ ds) c d m here =
    each_cons M x y (cs ++ c ∷ []) (ds ++ d ∷ []) (each_head M x y cs ds m) (each_push M cs ds c d (each_tail M x y cs ds m) here)
