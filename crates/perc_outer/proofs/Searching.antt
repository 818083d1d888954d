-- A binary search among streams whose SSRCs rise.
use Rattle.std.proofs.Common.{◌≡◌, ℕ, ◌≤◌, List, length, get_or, Result, Ok, Err, IfOk, IfErr, sym, ap, arith}
use Rattle.std.specs.List.Sorted.{IsSearchInRange, IsBinarySearchResult, IsNonDecreasingBy}
use Rattle.std.specs.Ordering.{nat_cmp, ordering_index}
use Rattle.std.proofs.lemmas.Cmp.{ranked}
use Rattle.std.proofs.lemmas.Bool.Decides.{nat_tests}
use Rattle.perc_srtp.specs.Ends.{Stream}
use Rattle.perc_outer.specs.Places.{IsAt, IsGapFor}
use Rattle.perc_outer.proofs.Finding.{Rise}

-- the comparisons with an SSRC rise along them
comparisons_rise : (kept : List Stream) (ssrc : ℕ) → Rise kept → IsNonDecreasingBy (λ s. ordering_index (nat_cmp s.ssrc ssrc)) kept
comparisons_rise kept ssrc rise i j d le in_range =
    let keys_rise : (get_or kept i d).ssrc ≤ (get_or kept j d).ssrc = grind (arith, rise i j d, λ (same : i ≡ j). ap (λ (k : ℕ). (get_or kept k d).ssrc) same) in
    grind (arith, nat_tests)

-- So the search ends at the stream of the SSRC, or at the gap for it.
pub searched : (kept : List Stream) (ssrc : ℕ) (answer : Result ℕ ℕ) → Rise kept → IsSearchInRange answer (length kept)
    → IsBinarySearchResult (λ s. nat_cmp s.ssrc ssrc) kept answer → IfOk answer (IsAt kept ssrc) × IfErr answer (IsGapFor kept ssrc)
searched kept ssrc (Ok place) rise in_range equal = (record { in_range = in_range; has_ssrc = λ d. ranked _ ssrc _ (sym (equal d)) }, tt)
searched kept ssrc (Err place) rise in_range parted =
    let parts = parted (comparisons_rise kept ssrc rise) in (
      tt,
      record {
        in_range = in_range;
        lower = λ k d low. ranked _ ssrc _ (sym (parts.0 k d (omega arith) low));
        higher = λ k d high within. ranked _ ssrc _ (sym (parts.1 k d high within));
      },
    )
