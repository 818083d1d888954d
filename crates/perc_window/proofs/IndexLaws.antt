-- Laws of the nearest index, and of what a receiver says to an index.
use Rattle.std.proofs.Common.{◌≡◌, ℕ, nat_lt, ◌+◌, ◌%◌, ◌^◌, ◌<◌, ◌≤◌, max, Bool, true, false, eqb, ◌||◌, List, [], ◌∷◌, Option, Some, None, IfSome, IfNone, ◌-◌, ⊎_elim, refl, sym, arith}
use Rattle.std.proofs.lemmas.Bool.{cases_lt}
use Rattle.std.proofs.lemmas.Bool.Decides.{nat_tests}
use Rattle.std.proofs.lemmas.Option.{same_Some}
use Rattle.std.specs.Bool.{then_some}
use Rattle.std.specs.Option.{option_map_or}
use Rattle.perc_window.specs.Index.{is_near, IsNearest, nearest}
use Rattle.perc_window.specs.Replay.{Marks, StandsFor, has, greatest, is_too_old, freshness, freshness_at}
use Rattle.perc_window.specs.declared.window.Freshness.TheVariants.{Fresh, Repeated, TooOld}

-- An index in the half range, with this sequence number, is the nearest one. So there is one such index at most.
pub nearest_is : (h seq index : ℕ) → index % 65536 ≡ seq → is_near h index ≡ true → index < 2 ^ 48 → nearest (Some h) seq ≡ Some index
unfolding nearest
nearest_is h seq index congruent near in_range = grind (arith, nat_tests)

-- the same without a bound: the index is the nearest one unless it is from the end of the indices on
pub nearest_in_turn : (h seq index : ℕ) → index % 65536 ≡ seq → is_near h index ≡ true → nearest (Some h) seq ≡ then_some (nat_lt index (2 ^ 48)) index
unfolding nearest
nearest_in_turn h seq index congruent near = grind (arith, nat_tests)

-- There is no turn before the first.
pub nearest_below : (h seq : ℕ) → h < 65536 → h + 32768 < seq → nearest (Some h) seq ≡ None
unfolding nearest
nearest_below h seq first above = grind (arith, nat_tests)

-- The nearest index has this sequence number, is in the half range, and is below the end of the indices.
pub nearest_some : (highest : Option ℕ) (seq index : ℕ) → seq < 65536 → nearest highest seq ≡ Some index → IsNearest highest seq index
unfolding nearest
nearest_some None seq index fits is = record { congruent = grind arith; near = grind arith; in_range = grind arith }
nearest_some (Some h) seq index fits is = record { congruent = grind (arith, nat_tests); near = grind (arith, nat_tests); in_range = grind (arith, nat_tests) }

-- the same of a result that equals it
pub nearest_found : (highest : Option ℕ) (seq : ℕ) (result : Option ℕ) → seq < 65536 → result ≡ nearest highest seq → IfSome result (IsNearest highest seq)
nearest_found highest seq None fits is = tt
nearest_found highest seq (Some index) fits is = nearest_some highest seq index fits (sym is)

-- Where nothing was accepted, it is the sequence number itself.
pub nearest_first : (seq : ℕ) → nearest None seq ≡ Some seq
unfolding nearest
nearest_first seq = refl

-- Where there is no nearest index, no index is one.
pub nearest_none : (highest : Option ℕ) (seq index : ℕ) → nearest highest seq ≡ None → IsNearest highest seq index → ⊥
nearest_none None seq index is near = grind (arith, nearest_first seq)
nearest_none (Some h) seq index is near = grind (arith, nearest_is h seq index near.congruent near.near near.in_range)

-- the same of a result that equals it
pub nearest_missed : (highest : Option ℕ) (seq : ℕ) (result : Option ℕ) → result ≡ nearest highest seq → IfNone result ((index : ℕ) → IsNearest highest seq index → ⊥)
nearest_missed highest seq None is = λ index near. nearest_none highest seq index (sym is) near
nearest_missed highest seq (Some index) is = tt

-- Nothing but the empty set has no greatest index.
pub greatest_none : (accepted : List ℕ) → greatest accepted ≡ None → accepted ≡ []
greatest_none [] is = refl
greatest_none (index ∷ accepted) is = grind arith

-- Where there is no greatest index, none was accepted.
pub has_none : (accepted : List ℕ) (index : ℕ) → greatest accepted ≡ None → has accepted index ≡ false
has_none [] index is = refl
has_none (i ∷ accepted) index is = grind arith

-- one more index, over any greatest one of the others
bounds_more : (others : Option ℕ) (member : Bool) (i h index : ℕ) → (others ≡ None → member ≡ false)
    → ((g : ℕ) → others ≡ Some g → member ≡ true → index ≤ g) → option_map_or (max i) others i ≡ h → (eqb i index || member) ≡ true
    → index ≤ h
bounds_more None member i h index none some is found = let e = none refl in grind (arith, nat_tests)
bounds_more (Some g) true i h index none some is found = omega (arith, some g refl refl)
bounds_more (Some g) false i h index none some is found = grind (arith, nat_tests)

-- No accepted index is above the greatest.
pub greatest_bounds : (accepted : List ℕ) (h index : ℕ) → greatest accepted ≡ Some h → has accepted index ≡ true → index ≤ h
greatest_bounds [] h index is member = grind arith
greatest_bounds (i ∷ accepted) h index is member =
    bounds_more (greatest accepted) (has accepted index) i h index (has_none accepted index)
    (λ g e. greatest_bounds accepted g index e) (same_Some _ _ is) member

-- An index above the greatest is not accepted.
pub has_above : (accepted : List ℕ) (h index : ℕ) → greatest accepted ≡ Some h → h < index → has accepted index ≡ false
has_above accepted h index is above = grind (arith, greatest_bounds accepted h index is)

-- A fresh index was not accepted.
pub fresh_has : (accepted : List ℕ) (index : ℕ) → freshness accepted index ≡ Fresh → has accepted index ≡ false
fresh_has accepted index is = grind arith

-- A fresh index is less than 128 behind the greatest.
pub fresh_recent : (accepted : List ℕ) (index : ℕ) → freshness accepted index ≡ Fresh → is_too_old accepted index ≡ false
fresh_recent accepted index is = grind arith

-- An index that was not accepted is fresh where it is not too old.
pub freshness_fresh : (accepted : List ℕ) (index : ℕ) → is_too_old accepted index ≡ false → has accepted index ≡ false → freshness accepted index ≡ Fresh
freshness_fresh accepted index recent member = grind arith

-- An index that was accepted is repeated where it is not too old.
pub freshness_repeated : (accepted : List ℕ) (index : ℕ) → is_too_old accepted index ≡ false → has accepted index ≡ true → freshness accepted index ≡ Repeated
freshness_repeated accepted index recent member = grind arith

-- An index that is too old is so called whether or not it was accepted.
pub freshness_too_old : (accepted : List ℕ) (index : ℕ) → is_too_old accepted index ≡ true → freshness accepted index ≡ TooOld
freshness_too_old accepted index old = grind arith

-- So an index is never accepted twice.
pub accepted_not_fresh : (accepted : List ℕ) (index : ℕ) → has accepted index ≡ true → freshness accepted index ≡ Fresh → ⊥
accepted_not_fresh accepted index member is = grind arith

-- An index above the greatest is fresh.
pub freshness_above : (accepted : List ℕ) (h index : ℕ) → greatest accepted ≡ Some h → h < index → freshness accepted index ≡ Fresh
freshness_above accepted h index is above = grind (arith, nat_tests, has_above accepted h index is above)

-- Where nothing was accepted, each index is fresh.
pub freshness_first : (index : ℕ) → freshness [] index ≡ Fresh
freshness_first index = refl

-- The index just accepted is a member.
pub has_first : (accepted : List ℕ) (index : ℕ) → has (index ∷ accepted) index ≡ true
has_first accepted index = grind (arith, nat_tests)

-- The others are members as before.
pub has_other : (accepted : List ℕ) (i index : ℕ) → (i ≡ index → ⊥) → has (i ∷ accepted) index ≡ has accepted index
has_other accepted i index other = grind (arith, nat_tests)

-- `freshness_same`, by cases of the highest index
freshness_same_at : (highest : Option ℕ) (behind : List Bool) (accepted : List ℕ) (index : ℕ)
    → StandsFor (record { highest = highest; behind = behind }) accepted
    → freshness_at (record { highest = highest; behind = behind }) index ≡ freshness accepted index
freshness_same_at None behind accepted index stands = grind (arith, nat_tests, has_none accepted index, stands.highest)
freshness_same_at (Some h) behind accepted index stands =
    let top = sym stands.highest in
    ⊎_elim (λ (above : h < index). grind (arith, nat_tests, has_above accepted h index top above))
    (λ (below : index ≤ h).
    ⊎_elim (λ (recent : h - index < 128).
    let e : h - (h - index) ≡ index = omega arith in
    let m = rw e at (stands.marks (h - index) recent (omega arith)) in
    grind (arith, nat_tests))
    (λ (old : 128 ≤ h - index). grind (arith, nat_tests))
    (cases_lt (h - index) 128))
    (cases_lt h index)

-- A window that stands for a set says what the set says.
pub freshness_same : (window : Marks) (accepted : List ℕ) (index : ℕ) → StandsFor window accepted → freshness_at window index ≡ freshness accepted index
freshness_same window accepted index stands = freshness_same_at window.highest window.behind accepted index stands
