-- Streams in lists: which is found, and what an edit does to that.
use Rattle.std.proofs.Common.{◌≡◌, ℕ, zero, suc, ◌+◌, ◌-◌, ◌<◌, eqb, true, false, List, [], ◌∷◌, length, get_or, set, Option, Some, None, is_some, inl, inr, refl, sym, ap, subst, ◌∙◌, arith}
use Rattle.std.specs.Prelude.{AllPairs, find}
use Rattle.std.specs.List.{insert, list_any}
use Rattle.std.proofs.lemmas.Bool.{cases_eq}
use Rattle.std.proofs.lemmas.Bool.Decides.{nat_tests}
use Rattle.std.proofs.lemmas.Grind.{get_or-set_at}
use Rattle.std.proofs.lemmas.List.{get_or-set_other, length-set}
use Rattle.std.proofs.lemmas.List.Edits.{length-insert, get_or-insert_above, get_or-insert_at, get_or-insert_below}
use Rattle.std.proofs.lemmas.List.Folds.{find_past}
use Rattle.perc_srtp.specs.Ends.{Stream}
use Rattle.perc_outer.specs.Streams.{OuterStream, accepted_of, is_of, with_index}
use Rattle.perc_outer.specs.Kept.{kept_of}
use Rattle.perc_outer.specs.Places.{IsGapFor}

-- ---- kept streams

abbrev pub Rise : List Stream → Type 0
Rise kept = AllPairs (λ a b. a.ssrc < b.ssrc) kept

rise-tail : (x : Stream) (kept : List Stream) → Rise (x ∷ kept) → Rise kept
rise-tail x kept rise i j d below within = rise (suc i) (suc j) d (omega arith) (omega arith)

skipped : (x : Stream) (kept : List Stream) (ssrc : ℕ) (found : Option Stream) → (x.ssrc ≡ ssrc → ⊥) → kept_of kept ssrc ≡ found → kept_of (x ∷ kept) ssrc ≡ found
skipped x kept ssrc found other is = grind (arith, nat_tests)

met : (x : Stream) (kept : List Stream) (ssrc : ℕ) → x.ssrc ≡ ssrc → kept_of (x ∷ kept) ssrc ≡ Some x
met x kept ssrc same = grind (arith, nat_tests)

-- Where SSRCs rise, the stream at a place is the one of its SSRC.
pub kept_at : (kept : List Stream) (place : ℕ) (s : Stream) → Rise kept → s ≡ get_or kept place s → place < length kept → kept_of kept s.ssrc ≡ Some s
kept_at [] place s rise is within = absurd (omega arith)
kept_at (x ∷ kept) zero s rise is within = met x kept s.ssrc (ap (λ (k : Stream). k.ssrc) (sym is)) ∙ ap (λ (k : Stream). Some k) (sym is)
kept_at (x ∷ kept) (suc place) s rise is within =
    let above : x.ssrc < (get_or kept place s).ssrc = rise 0 (suc place) s (omega arith) within in
    let same : (get_or kept place s).ssrc ≡ s.ssrc = ap (λ (k : Stream). k.ssrc) (sym is) in
    skipped x kept s.ssrc (Some s) (λ e. omega arith) (kept_at kept place s (rise-tail x kept rise) is (omega arith))

-- Where none has the SSRC, none is found.
pub kept_none : (kept : List Stream) (ssrc : ℕ) → ((k : ℕ) (d : Stream) → k < length kept → (get_or kept k d).ssrc ≡ ssrc → ⊥) → kept_of kept ssrc ≡ None
kept_none [] ssrc other = refl
kept_none (x ∷ kept) ssrc other = skipped x kept ssrc None (other 0 x (omega arith)) (kept_none kept ssrc (λ k d within. other (suc k) d (omega arith)))

pub kept_in_gap : (kept : List Stream) (ssrc place : ℕ) → IsGapFor kept ssrc place → kept_of kept ssrc ≡ None
kept_in_gap kept ssrc place gap = kept_none kept ssrc (λ k d within same. grind (arith, gap.lower k d, gap.higher k d))

-- A stream of another SSRC changes nothing, put over one of another or inserted.
pub kept_past_set : (kept : List Stream) (place : ℕ) (s : Stream) (ssrc : ℕ) → ((get_or kept place s).ssrc ≡ ssrc → ⊥) → (s.ssrc ≡ ssrc → ⊥)
    → kept_of (set kept place s) ssrc ≡ kept_of kept ssrc
kept_past_set kept place s ssrc was is = find_past (λ k. eqb k.ssrc ssrc) kept place s s (grind (arith, nat_tests)) (grind (arith, nat_tests))

pub kept_past_insert : (kept : List Stream) (place : ℕ) (s : Stream) (ssrc : ℕ) → (s.ssrc ≡ ssrc → ⊥) → kept_of (insert kept place s) ssrc ≡ kept_of kept ssrc
kept_past_insert kept zero s ssrc other = skipped s kept ssrc (kept_of kept ssrc) other refl
kept_past_insert [] (suc place) s ssrc other = skipped s [] ssrc None other refl
kept_past_insert (x ∷ kept) (suc place) s ssrc other = let rest = kept_past_insert kept place s ssrc other in grind (arith, rest)

-- SSRCs still rise where one is put over another of its SSRC,
ssrc-set : (kept : List Stream) (place : ℕ) (s d : Stream) → place < length kept → (get_or kept place d).ssrc ≡ s.ssrc → (k : ℕ)
    → (get_or (set kept place s) k d).ssrc ≡ (get_or kept k d).ssrc
ssrc-set kept place s d within same k =
    elim (cases_eq k place) [
      | inl e ↦ ap (λ (x : Stream). x.ssrc) (get_or-set_at kept place k s d e within) ∙ sym (ap (λ (n : ℕ). (get_or kept n d).ssrc) e ∙ same)
      | inr e ↦ ap (λ (x : Stream). x.ssrc) (get_or-set_other kept place k s d e)
    ]

pub rise-set : (kept : List Stream) (place : ℕ) (s : Stream) → Rise kept → place < length kept → ((d : Stream) → (get_or kept place d).ssrc ≡ s.ssrc) → Rise (set kept place s)
rise-set kept place s rise within same i j d below in_range =
    let long : j < length kept = omega (arith, length-set kept place s) in
    omega (arith, ssrc-set kept place s d within (same d) i, ssrc-set kept place s d within (same d) j, rise i j d below long)

-- and where one is inserted at its gap: each is one from before below the gap, the new one at it, or one moved up.
pub rise-insert : (kept : List Stream) (place : ℕ) (s : Stream) → Rise kept → IsGapFor kept s.ssrc place → Rise (insert kept place s)
rise-insert kept place s rise gap i j d below in_range =
    let new : List Stream = insert kept place s in
    let ssrc = λ (x : Stream). x.ssrc in
    let long = length-insert kept place s gap.in_range in
    let under : (k : ℕ) → k < place → (get_or new k d).ssrc ≡ (get_or kept k d).ssrc = λ k low. ap ssrc (get_or-insert_below kept place s d k low gap.in_range) in
    let here : (k : ℕ) → k ≡ place → (get_or new k d).ssrc ≡ s.ssrc = λ k at. rw at (ap ssrc (get_or-insert_at kept place s d gap.in_range)) in
    let over : (k : ℕ) → place < k → (get_or new k d).ssrc ≡ (get_or kept (k - 1) d).ssrc =
    λ k high. subst (λ (q : ℕ). (get_or new q d).ssrc ≡ (get_or kept (k - 1) d).ssrc) {x = k - 1 + 1} (omega arith) (ap ssrc (get_or-insert_above kept place s d (k - 1) (omega arith) gap.in_range)) in
    grind (arith, under i, here i, over i, under j, here j, over j, rise i j d, rise i (j - 1) d, rise (i - 1) (j - 1) d, gap.lower i d, gap.higher (j - 1) d)

-- ---- streams with an index more

HasIndex : ℕ → ℕ → List OuterStream → Type 0
HasIndex ssrc index streams =
    find (is_of ssrc) (with_index ssrc index streams) ≡ Some (record { ssrc = ssrc; accepted = index ∷ accepted_of streams ssrc })

find_same : (index : ℕ) (s : OuterStream) (streams : List OuterStream) → HasIndex s.ssrc index (s ∷ streams)
unfolding HasIndex
find_same index s streams = let same : eqb s.ssrc s.ssrc ≡ true = grind (arith, nat_tests) in rw same (rw same refl)

pub find_with : (ssrc index : ℕ) (streams : List OuterStream)
    → find (is_of ssrc) (with_index ssrc index streams) ≡ Some (record { ssrc = ssrc; accepted = index ∷ accepted_of streams ssrc })
unfolding HasIndex
find_with ssrc index [] = grind (arith, nat_tests)
find_with ssrc index (s ∷ streams) =
    elim (cases_eq s.ssrc ssrc) [
      | inl same ↦ subst (λ (k : ℕ). HasIndex k index (s ∷ streams)) same (find_same index s streams)
      | inr apart ↦ let rest = find_with ssrc index streams in grind (arith, nat_tests, rest)
    ]

pub find_past_with : (ssrc other index : ℕ) (streams : List OuterStream) → (ssrc ≡ other → ⊥) → find (is_of other) (with_index ssrc index streams) ≡ find (is_of other) streams
find_past_with ssrc other index [] apart = grind (arith, nat_tests)
find_past_with ssrc other index (s ∷ streams) apart =
    let rest = find_past_with ssrc other index streams apart in
    grind (arith, nat_tests, rest)

pub any_found : (ssrc : ℕ) (streams : List OuterStream) → list_any (is_of ssrc) streams ≡ is_some (find (is_of ssrc) streams)
any_found ssrc [] = refl
any_found ssrc (s ∷ streams) = let rest = any_found ssrc streams in grind (arith, rest)

pub length-with_held : (ssrc index : ℕ) (streams : List OuterStream) → list_any (is_of ssrc) streams ≡ true → length (with_index ssrc index streams) ≡ length streams
length-with_held ssrc index [] held = cc
length-with_held ssrc index (s ∷ streams) held = let rest = length-with_held ssrc index streams in grind (arith, nat_tests, rest)

pub length-with_new : (ssrc index : ℕ) (streams : List OuterStream) → list_any (is_of ssrc) streams ≡ false → length (with_index ssrc index streams) ≡ length streams + 1
length-with_new ssrc index [] new = refl
length-with_new ssrc index (s ∷ streams) new = let rest = length-with_new ssrc index streams in grind (arith, nat_tests, rest)
