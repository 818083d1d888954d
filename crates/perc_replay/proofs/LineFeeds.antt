-- How many line feeds octets have.
use Rattle.std.proofs.Common.{◌≡◌, ◌==◌, ℕ, ◌+◌, suc, cond, List, [], ◌∷◌, ◌++◌, refl, ap, ◌∙◌, inl, inr, arith}
use Rattle.std.specs.List.{Contains}
use Rattle.std.proofs.lemmas.Bool.Decides.{eqb_tells}
use Rattle.std.proofs.lemmas.List.Sums.{sum_by-append}
use Rattle.perc_replay.specs.Replay.{line_feeds}

pub feeds_append : (xs ys : List ℕ) → line_feeds (xs ++ ys) ≡ line_feeds xs + line_feeds ys
feeds_append xs ys = sum_by-append (λ x. cond (x == 10) 1 0) xs ys

pub no_feeds : (xs : List ℕ) → (Contains xs 10 → ⊥) → line_feeds xs ≡ 0
no_feeds [] none = refl
no_feeds (x ∷ xs) none = elim (eqb_tells x 10) [
  | inl h ↦ absurd (none (0, omega arith, h.1))
  | inr h ↦ rw h.0 (no_feeds xs (λ w. none (suc w.0, omega (arith, w.1), w.2)))
]

-- a line with its line feed has one
pub line_feeds-line : (line : List ℕ) → (Contains line 10 → ⊥) → line_feeds (line ++ 10 ∷ []) ≡ 1
line_feeds-line line none = feeds_append line (10 ∷ []) ∙ ap (λ n. n + 1) (no_feeds line none)
