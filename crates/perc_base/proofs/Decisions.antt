-- What the octets from s to e of a room decide.
use Rattle.std.proofs.Common.{◌≡◌, ◌≢◌, ◌==◌, ℕ, ◌+◌, ◌-◌, ◌<◌, ◌≤◌, Bool, true, false, List, [], ◌∷◌, ◌++◌, length, take, drop, Some, None, arith, refl, sym, ap, subst, ◌∙◌, inl, inr}
use Rattle.std.specs.List.{Contains, position, slice_range}
use Rattle.std.proofs.lemmas.List.Edits.{length-between}
use Rattle.std.proofs.lemmas.List.{nil_from_length}
use Rattle.std.proofs.lemmas.Bool.{false≢true}
use Rattle.perc_base.specs.Lines.{Held, Line, Long, IsDecided}
use Rattle.perc_base.specs.Room.{Decides}
use Rattle.perc_base.proofs.Lists.{line_feed_cases, slice_range-front, slice_range-back}

module _ (xs : List ℕ) (s e : ℕ) (ended : Bool) (ordered : s ≤ e) (within : e ≤ 8193) (full : length xs ≡ 8193) where
  abbrev held : Held
  held = record { octets = slice_range xs s e; ended = ended }

  held_length : length (slice_range xs s e) ≡ e - s
  held_length = length-between xs s e (omega arith)

  -- a line feed after n octets
  pub decides_line : (n : ℕ) → Some n ≡ position (λ x. x == 10) (slice_range xs s e)
      → Decides held (Line (slice_range xs s (s + n))) (record { octets = slice_range xs (s + n + 1) e; ended = ended })
  decides_line n at =
      let f = line_feed_cases (slice_range xs s e) (Some n) at in
      let size = held_length in
      let below : s + n < e = omega (arith, f.0) in
      let front : slice_range xs s (s + n) ≡ take n (slice_range xs s e) = slice_range-front xs s e n (omega arith) in
      let shift : s + n + 1 ≡ s + (n + 1) = omega arith in
      let back : slice_range xs (s + n + 1) e ≡ drop (n + 1) (slice_range xs s e) =
      ap (λ k. slice_range xs k e) shift ∙ slice_range-back xs s e (n + 1) (omega arith) in
      let long : length (slice_range xs s (s + n)) ≡ s + n - s = length-between xs s (s + n) (omega arith) in (
        omega arith,
        λ w. f.1 (subst (λ l. Contains l 10) front w),
        refl,
        inl (f.2 ∙ ap (λ l. l ++ 10 ∷ drop (n + 1) (slice_range xs s e)) (sym front) ∙ ap (λ l. slice_range xs s (s + n) ++ 10 ∷ l) (sym back)),
      )

  -- no line feed
  none_held : None ≡ position (λ x. x == 10) (slice_range xs s e) → Contains (slice_range xs s e) 10 → ⊥
  none_held at = line_feed_cases (slice_range xs s e) None at

  pub decides_long : None ≡ position (λ x. x == 10) (slice_range xs s e) → e - s ≡ 8193 → Decides held Long held
  decides_long at size = (refl, held_length ∙ size, none_held at)

  pub decides_last : None ≡ position (λ x. x == 10) (slice_range xs s e) → e - s ≢ 8193 → ended ≡ true → e - s ≢ 0
      → Decides held (Line (slice_range xs s e)) (record { octets = slice_range xs e e; ended = ended })
  decides_last at short is_ended some =
      let size = held_length in
      let nothing : slice_range xs e e ≡ [] = nil_from_length _ (length-between xs e e (omega arith) ∙ omega arith) in (
        omega arith,
        none_held at,
        refl,
        inr (refl, (λ none. absurd (some (omega (arith, ap length none)))), nothing, is_ended),
      )

  pub undecided : None ≡ position (λ x. x == 10) (slice_range xs s e) → e - s ≢ 8193 → ended ≡ false → IsDecided held → ⊥
  undecided at short isnt_ended decided =
      let size = held_length in
      elim decided [
        | inl d ↦ false≢true (sym isnt_ended ∙ d)
        | inr d ↦ elim d [ inl feed ↦ none_held at feed | inr long ↦ absurd (omega arith) ]
      ]
