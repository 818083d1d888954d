-- Lists by their places: an element written, one more at the end, and two lists that pass a test at the same places.
use Rattle.std.proofs.Common.{◌≡◌, ◌≢◌, ℕ, zero, suc, ◌+◌, Bool, true, false, List, [], ◌∷◌, ◌++◌, length, Some, slice_get, slice_set, ◌⊎◌, inl, inr, refl, sym, ap, ◌∙◌, arith}
use Rattle.std.specs.List.{list_any, position, position_or_len, filter}
use Rattle.std.specs.Prelude.{count_by}
use Rattle.std.proofs.lemmas.List.{length-set, length_push}
use Rattle.std.proofs.lemmas.List.Sums.{length-filter}
use Rattle.std.proofs.lemmas.Option.{slice_get_within}
use Rattle.perc_member.specs.Each.{MirrorEach}
use Rattle.perc_sent.proofs.Finding.{at_within}

-- an element of the list after a write is what was written, or stood there before
pub set_cases : {X : Type 0} (xs : List X) (k i : ℕ) (y a : X) → slice_get (slice_set xs k y) i ≡ Some a → ((i ≡ k) × (a ≡ y)) ⊎ ((i ≢ k) × (slice_get xs i ≡ Some a))
set_cases [] k i y a h = absurd (cc)
set_cases (x ∷ xs) zero zero y a h = inl (refl, cc)
set_cases (x ∷ xs) zero (suc i) y a h = inr ((λ e. omega (arith, e)), h)
set_cases (x ∷ xs) (suc k) zero y a h = inr ((λ e. omega (arith, e)), h)
set_cases (x ∷ xs) (suc k) (suc i) y a h =
    elim (set_cases xs k i y a h) [ inl p ↦ inl (ap suc p.0, p.1) | inr q ↦ inr ((λ e. q.0 (omega (arith, e))), q.1) ]

-- an element of the list with one more at its end is that one, or stood there before
pub push_cases : {X : Type 0} (xs : List X) (i : ℕ) (y a : X) → slice_get (xs ++ y ∷ []) i ≡ Some a → ((i ≡ length xs) × (a ≡ y)) ⊎ (slice_get xs i ≡ Some a)
push_cases [] zero y a h = inl (refl, cc)
push_cases [] (suc i) y a h = inr h
push_cases (x ∷ xs) zero y a h = inr h
push_cases (x ∷ xs) (suc i) y a h = elim (push_cases xs i y a h) [ inl p ↦ inl (ap suc p.0, p.1) | inr q ↦ inr q ]

-- ---- lists that mirror each other

pub each_set : {C D : Type 0} (M : C → D → Type 0) (cs : List C) (ds : List D) (k : ℕ) (c : C) (d : D) → MirrorEach M cs ds → M c d → MirrorEach M (slice_set cs k c) (slice_set ds k d)
each_set M cs ds k c d all new = record {
  count = length-set cs k c ∙ all.count ∙ sym (length-set ds k d);
  each = λ i a b f g.
      elim (set_cases cs k i c a f) [
        | inl v ↦ (elim (set_cases ds k i d b g) [
          | inl w ↦ rw (v.1, w.1) new
          | inr w ↦ absurd (w.0 v.0)
        ])
        | inr v ↦ (elim (set_cases ds k i d b g) [
          | inl w ↦ absurd (v.0 w.0)
          | inr w ↦ all.each i a b v.1 w.1
        ])
      ];
}

pub each_push : {C D : Type 0} (M : C → D → Type 0) (cs : List C) (ds : List D) (c : C) (d : D) → MirrorEach M cs ds → M c d → MirrorEach M (cs ++ c ∷ []) (ds ++ d ∷ [])
each_push M cs ds c d all new =
    let count = all.count in
    record {
      count = length_push cs c ∙ ap (λ n. n + 1) count ∙ sym (length_push ds d);
      each = λ i a b f g.
          elim (push_cases cs i c a f) [
            | inl v ↦ (elim (push_cases ds i d b g) [
              | inl w ↦ rw (v.1, w.1) new
              | inr w ↦ absurd (omega (arith, slice_get_within ds i b w, v.0))
            ])
            | inr v ↦ (elim (push_cases ds i d b g) [
              | inl w ↦ absurd (omega (arith, slice_get_within cs i a v, w.0))
              | inr w ↦ all.each i a b v w
            ])
          ];
    }

-- what mirrors an element
pub mirrored : {C D : Type 0} (M : C → D → Type 0) (cs : List C) (ds : List D) (k : ℕ) (d : D) → MirrorEach M cs ds → slice_get ds k ≡ Some d
    → (c : C) × (slice_get cs k ≡ Some c) × M c d
mirrored M cs ds k d all at =
    let count = all.count in
    let c = at_within cs k (omega (arith, slice_get_within ds k d at)) in
    (c.0, c.1, all.each k c.0 d c.1 at)

each_tail : {C D : Type 0} (M : C → D → Type 0) (c : C) (d : D) (cs : List C) (ds : List D) → MirrorEach M (c ∷ cs) (d ∷ ds) → MirrorEach M cs ds
each_tail M c d cs ds all =
    let count = all.count in
    record { count = omega arith; each = λ k a b f g. all.each (suc k) a b f g }

-- ---- tests that pass at the same places

pub any_same : {C D : Type 0} (M : C → D → Type 0) (p : C → Bool) (q : D → Bool) (cs : List C) (ds : List D) → MirrorEach M cs ds
    → ((c : C) (d : D) → M c d → p c ≡ q d) → list_any p cs ≡ list_any q ds
any_same M p q [] [] all same = refl
any_same M p q [] (d ∷ ds) all same = absurd (let count = all.count in omega arith)
any_same M p q (c ∷ cs) [] all same = absurd (let count = all.count in omega arith)
any_same M p q (c ∷ cs) (d ∷ ds) all same =
    let here = same c d (all.each 0 c d refl refl) in
    let later = any_same M p q cs ds (each_tail M c d cs ds all) same in
    rw (here, later) refl

kept_one : {C D : Type 0} (p : C → Bool) (q : D → Bool) (c : C) (d : D) (cs : List C) (ds : List D) (b : Bool) → p c ≡ b → q d ≡ b
    → length (filter p cs) ≡ length (filter q ds) → length (filter p (c ∷ cs)) ≡ length (filter q (d ∷ ds))
kept_one p q c d cs ds true e f same = rw (e, f) (ap suc same)
kept_one p q c d cs ds false e f same = rw (e, f) same

kept_same : {C D : Type 0} (M : C → D → Type 0) (p : C → Bool) (q : D → Bool) (cs : List C) (ds : List D) → MirrorEach M cs ds
    → ((c : C) (d : D) → M c d → p c ≡ q d) → length (filter p cs) ≡ length (filter q ds)
kept_same M p q [] [] all same = refl
kept_same M p q [] (d ∷ ds) all same = absurd (let count = all.count in omega arith)
kept_same M p q (c ∷ cs) [] all same = absurd (let count = all.count in omega arith)
kept_same M p q (c ∷ cs) (d ∷ ds) all same =
    kept_one p q c d cs ds (q d) (same c d (all.each 0 c d refl refl)) refl (kept_same M p q cs ds (each_tail M c d cs ds all) same)

pub count_same : {C D : Type 0} (M : C → D → Type 0) (p : C → Bool) (q : D → Bool) (cs : List C) (ds : List D) → MirrorEach M cs ds
    → ((c : C) (d : D) → M c d → p c ≡ q d) → count_by p cs ≡ length (filter q ds)
count_same M p q cs ds all same = sym (length-filter p cs) ∙ kept_same M p q cs ds all same

first_same : {C D : Type 0} (M : C → D → Type 0) (p : C → Bool) (q : D → Bool) (cs : List C) (ds : List D) → MirrorEach M cs ds
    → ((c : C) (d : D) → M c d → p c ≡ q d) → position_or_len p cs ≡ position_or_len q ds
first_same M p q [] [] all same = refl
first_same M p q [] (d ∷ ds) all same = absurd (let count = all.count in omega arith)
first_same M p q (c ∷ cs) [] all same = absurd (let count = all.count in omega arith)
first_same M p q (c ∷ cs) (d ∷ ds) all same =
    let here = same c d (all.each 0 c d refl refl) in
    let later = first_same M p q cs ds (each_tail M c d cs ds all) same in
    rw (here, later) refl

pub position_same : {C D : Type 0} (M : C → D → Type 0) (p : C → Bool) (q : D → Bool) (cs : List C) (ds : List D) → MirrorEach M cs ds
    → ((c : C) (d : D) → M c d → p c ≡ q d) → position p cs ≡ position q ds
position_same M p q cs ds all same =
    let first = first_same M p q cs ds all same in
    rw (first, all.count) refl
