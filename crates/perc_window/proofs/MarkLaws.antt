-- What a window keeps, from one accepted index to the next, and the marks of two words.
use Rattle.std.proofs.Common.{◌≡◌, ◌≢◌, ◌∙◌, ℕ, ◌+◌, ◌-◌, ◌*◌, ◌/◌, ◌%◌, ◌^◌, ◌<◌, ◌≤◌, Bool, false, if◌then◌else◌, nat_lt, nat_eq, List, ◌∷◌, Some, None, slice_index_or, bit_or, ⊎_elim, sym, ap, arith}
use Rattle.std.specs.Int.{bit_at, w64}
use Rattle.std.proofs.lemmas.Bool.{cases_lt, cases_eq}
use Rattle.std.proofs.lemmas.Bool.Decides.{nat_tests}
use Rattle.std.proofs.lemmas.List.FromFn.{get_or-map-range_with_len}
use Rattle.std.proofs.lemmas.Nat.{div-add-mod', shr-shr, pow_pos}
use Rattle.std.proofs.lemmas.Nat.Bits.{bit_at_or, bit_at-zero, bit_at_cat_low, bit_at_cat_high, bit_at_above, bit_at_set_same, bit_at_set_other}
use Rattle.perc_window.specs.Replay.{StandsFor, window_size}
use Rattle.perc_window.specs.Words.{is_marked, marks_of, IsMarkedAt, IsMovedUp}
use Rattle.perc_window.proofs.IndexLaws.{has_none, has_above}

-- ---- what a window stands for

-- an index above the highest
pub marked_ahead : (h index by place : ℕ) (behind moved new : List Bool) (accepted : List ℕ)
    → StandsFor (record { highest = Some h; behind = behind }) accepted → h < index → by ≡ index - h → IsMovedUp behind by moved
    → IsMarkedAt moved place new → place ≡ 0 → StandsFor (record { highest = Some index; behind = new }) (index ∷ accepted)
marked_ahead h index by place behind moved new accepted stands above by_is shifted marked place_is = record {
  highest = grind (arith, sym stands.highest);
  marks = λ k in_window in_range.
      let m = marked k in_window in
      let s = shifted k in_window in
      ⊎_elim (λ (here : k < 1). grind (arith, nat_tests))
      (λ (later : 1 ≤ k).
      ⊎_elim (λ (passed : k < index - h).
      let e = has_above accepted h (index - k) (sym stands.highest) (omega arith) in
      grind (arith, nat_tests))
      (λ (kept : index - h ≤ k).
      let e : h - (k - (index - h)) ≡ index - k = omega arith in
      let t = rw e at (stands.marks (k - (index - h)) (omega arith) (omega arith)) in
      grind (arith, nat_tests))
      (cases_lt k (index - h)))
      (cases_lt k 1);
}

-- the first index
pub marked_first : (index place : ℕ) (behind moved new : List Bool) (accepted : List ℕ)
    → StandsFor (record { highest = None; behind = behind }) accepted → IsMovedUp behind window_size moved → IsMarkedAt moved place new
    → place ≡ 0 → StandsFor (record { highest = Some index; behind = new }) (index ∷ accepted)
marked_first index place behind moved new accepted stands shifted marked place_is = record {
  highest = grind (arith, sym stands.highest);
  marks = λ k in_window in_range.
      let m = marked k in_window in
      let s = shifted k in_window in
      let e = has_none accepted (index - k) (sym stands.highest) in
      grind (arith, nat_tests);
}

-- ---- words

pub marks_at : (low high k : ℕ) → k < window_size → slice_index_or (marks_of low high) k false ≡ is_marked low high k
unfolding marks_of
marks_at low high k within =
    get_or-map-range_with_len (λ k. is_marked low high k) 0 window_size k k false within (omega arith)

pub none_marked : (k : ℕ) → k < window_size → slice_index_or (marks_of 0 0) k false ≡ false
none_marked k within =
    let e = marks_at 0 0 k within in
    let low_bit = bit_at-zero k in
    let high_bit = bit_at-zero (k - 64) in
    grind (arith, nat_tests)

-- a bit of a word that the shift has not dropped
wrapped : (n k : ℕ) → k < 64 → bit_at (n % 2 ^ 64) k ≡ bit_at n k
wrapped n k within =
    sym (bit_at_cat_low (n / 2 ^ 64) 64 (n % 2 ^ 64) k within) ∙ ap (λ (m : ℕ). bit_at m k) (div-add-mod' n (2 ^ 64))

-- a shift to the left: the lowest bits are clear
shl_low : (n by k : ℕ) → k < 64 → k < by → bit_at (n * 2 ^ by % 2 ^ 64) k ≡ 0
shl_low n by k within passed =
    wrapped (n * 2 ^ by) k within ∙ ap (λ (m : ℕ). bit_at m k) (omega arith) ∙ bit_at_cat_low n by 0 k passed ∙ bit_at-zero k

-- and the others come from below
shl_high : (n by k : ℕ) → k < 64 → by ≤ k → bit_at (n * 2 ^ by % 2 ^ 64) k ≡ bit_at n (k - by)
shl_high n by k within kept =
    wrapped (n * 2 ^ by) k within ∙ ap (λ (m : ℕ). bit_at m k) (omega arith) ∙ bit_at_cat_high n by 0 k (pow_pos by) kept

shr : (n by k : ℕ) → bit_at (n / 2 ^ by) k ≡ bit_at n (by + k)
shr n by k = ap (λ (m : ℕ). m % 2) (shr-shr n by k)

-- what words stand so
moved_marks : (low high new_low new_high by : ℕ)
    → ((k : ℕ) → k < window_size → is_marked new_low new_high k ≡ (if nat_lt k by then false else is_marked low high (k - by)))
    → IsMovedUp (marks_of low high) by (marks_of new_low new_high)
moved_marks low high new_low new_high by moved = λ k within.
    let new = marks_at new_low new_high k within in
    let old = marks_at low high (k - by) (omega arith) in
    let m = moved k within in
    grind (arith, nat_tests)

-- moved by less than a word
pub moved_within : (low high by : ℕ) → low < 2 ^ 64 → 0 < by → by < 64 → IsMovedUp (marks_of low high) by (marks_of (low * 2 ^ by % 2 ^ 64) (bit_or (high * 2 ^ by % 2 ^ 64) (low / 2 ^ (64 - by))))
moved_within low high by fits some within =
    moved_marks low high _ _ by (λ k in_window.
    ⊎_elim (λ (below : k < 64).
    ⊎_elim (λ (passed : k < by). let e = shl_low low by k below passed in grind (arith, nat_tests))
    (λ (kept : by ≤ k). let e = shl_high low by k below kept in grind (arith, nat_tests))
    (cases_lt k by))
    (λ (above : 64 ≤ k).
    let either = bit_at_or (high * 2 ^ by % 2 ^ 64) (low / 2 ^ (64 - by)) (k - 64) in
    let crossed = shr low (64 - by) (k - 64) in
    let place : 64 - by + (k - 64) ≡ k - by = omega arith in
    ⊎_elim (λ (passed : k - 64 < by).
    let e = shl_low high by (k - 64) (omega arith) passed in
    grind (arith, nat_tests))
    (λ (kept : by ≤ k - 64).
    let e = shl_high high by (k - 64) (omega arith) kept in
    let none = bit_at_above low 64 (k - by) fits (omega arith) in
    let from : k - 64 - by ≡ k - by - 64 = omega arith in
    grind (arith, nat_tests))
    (cases_lt (k - 64) by))
    (cases_lt k 64))

-- moved by a word or more
pub moved_across : (low high by : ℕ) → 64 ≤ by → by < window_size → IsMovedUp (marks_of low high) by (marks_of 0 (low * 2 ^ (by - 64) % 2 ^ 64))
moved_across low high by more within =
    moved_marks low high _ _ by (λ k in_window.
    ⊎_elim (λ (below : k < 64). let e = bit_at-zero k in grind (arith, nat_tests))
    (λ (above : 64 ≤ k).
    ⊎_elim (λ (passed : k < by). let e = shl_low low (by - 64) (k - 64) (omega arith) (omega arith) in grind (arith, nat_tests))
    (λ (kept : by ≤ k).
    let e = shl_high low (by - 64) (k - 64) (omega arith) (omega arith) in
    let from : k - 64 - (by - 64) ≡ k - by = omega arith in
    grind (arith, nat_tests))
    (cases_lt k by))
    (cases_lt k 64))

-- moved by the whole window
pub moved_past : (low high by : ℕ) → window_size ≤ by → IsMovedUp (marks_of low high) by (marks_of 0 0)
moved_past low high by more =
    moved_marks low high 0 0 by (λ k in_window.
    let low_bit = bit_at-zero k in
    let high_bit = bit_at-zero (k - 64) in
    grind (arith, nat_tests))

-- one bit set
set_bit : (word place k : ℕ) → place < 64 → bit_at (bit_or word (1 * 2 ^ place % 2 ^ 64)) k ≡ (if nat_eq k place then 1 else bit_at word k)
set_bit word place k within =
    ⊎_elim (λ (same : k ≡ place). let e = bit_at_set_same w64 word place within in grind (arith, nat_tests))
    (λ (other : k ≢ place). let e = bit_at_set_other w64 word place within k other in grind (arith, nat_tests))
    (cases_eq k place)

pub set_low : (low high place : ℕ) → place < 64 → IsMarkedAt (marks_of low high) place (marks_of (bit_or low (1 * 2 ^ place % 2 ^ 64)) high)
set_low low high place within = λ k in_window.
    let new = marks_at (bit_or low (1 * 2 ^ place % 2 ^ 64)) high k in_window in
    let old = marks_at low high k in_window in
    let bit = set_bit low place k within in
    grind (arith, nat_tests)

pub set_high : (low high place : ℕ) → 64 ≤ place → place < window_size → IsMarkedAt (marks_of low high) place (marks_of low (bit_or high (1 * 2 ^ (place - 64) % 2 ^ 64)))
set_high low high place above within = λ k in_window.
    let new = marks_at low (bit_or high (1 * 2 ^ (place - 64) % 2 ^ 64)) k in_window in
    let old = marks_at low high k in_window in
    let bit = set_bit high (place - 64) (k - 64) (omega arith) in
    grind (arith, nat_tests)
