-- The first line feed of a list, and the lines of octets.
use Rattle.std.proofs.Common.{◌≡◌, ◌≢◌, ◌==◌, ℕ, ◌+◌, ◌-◌, ◌<◌, ◌≤◌, suc, Bool, false, eqb, List, [], ◌∷◌, ◌++◌, length, take, drop, get_or, Option, Some, None, MatchOption, arith, refl, sym, ap, subst, ◌∙◌, inl, inr}
use Rattle.std.specs.List.{Contains, position, position_or_len, slice_range}
use Rattle.std.proofs.lemmas.List.{drop_more, take-append-drop, get_or-take, get_or_default, length-take, take-take, drop-drop, drop-take, take_all}
use Rattle.std.proofs.lemmas.List.Quantifiers.{position-Some}
use Rattle.std.proofs.lemmas.List.Sums.{fails_before_first}
use Rattle.std.proofs.lemmas.Bool.{eqb-true, eq-eqb, false≢true}
use Rattle.std.proofs.lemmas.Bool.Decides.{nat_tests, eqb_tells}
use Rattle.perc_base.specs.Lines.{lines_of, onto_first, Gives, Long, longest}

abbrev is_line_feed : ℕ → Bool
is_line_feed x = x == 10

-- what fails the test below n is no line feed
none_below : (h : List ℕ) (n : ℕ) → n ≤ length h → ((k : ℕ) → k < n → is_line_feed (get_or h k 0) ≡ false) → Contains (take n h) 10 → ⊥
none_below h n fits fails w =
    let k = w.0 in
    let long : length (take n h) ≡ n = simp length-take (omega arith) in
    let below : k < n = omega arith in
    let at : get_or h k 10 ≡ 10 = sym (get_or-take n h k 10 below) ∙ w.2 in
    let same : get_or h k 0 ≡ 10 = get_or_default h k 0 10 (omega arith) ∙ at in
    false≢true (sym (fails k below) ∙ eq-eqb _ _ same)

-- what the place of the first line feed says
pub line_feed_cases : (h : List ℕ) (r : Option ℕ) → r ≡ position (λ x. x == 10) h
    → MatchOption r (Contains h 10 → ⊥) (λ n. (n < length h) × (Contains (take n h) 10 → ⊥) × (h ≡ take n h ++ 10 ∷ drop (n + 1) h))
line_feed_cases h (Some n) e =
    let p = position-Some is_line_feed h n 0 (sym e) in
    let here : get_or h n 0 ≡ 10 = eqb-true _ _ p.1 in
    let within : n < length h = p.0 in (
      within,
      none_below h n (omega arith) p.2,
      sym (take-append-drop n h) ∙ ap (λ l. take n h ++ l) (drop_more h n 0 within ∙ ap (λ x. x ∷ drop (n + 1) h) here),
    )
line_feed_cases h None e =
    let past : length h ≤ position_or_len is_line_feed h = grind (arith, nat_tests) in
    λ w. none_below h (length h) (omega arith) (λ k b. fails_before_first is_line_feed h k 0 (omega arith)) (subst (λ l. Contains l 10) (sym (take_all (length h) h (omega arith))) w)

-- parts of a range
pub slice_range-front : (xs : List ℕ) (s e n : ℕ) → s + n ≤ e → slice_range xs s (s + n) ≡ take n (slice_range xs s e)
slice_range-front xs s e n h =
    let same : s + n - s ≡ n = omega arith in
    ap (λ k. take k (drop s xs)) same ∙ sym (take-take n (e - s) (drop s xs) (omega arith))

pub slice_range-back : (xs : List ℕ) (s e n : ℕ) → s + n ≤ e → slice_range xs (s + n) e ≡ drop n (slice_range xs s e)
slice_range-back xs s e n h =
    let rest : e - s ≡ n + (e - (s + n)) = omega arith in
    sym (ap (λ k. drop n (take k (drop s xs))) rest ∙ drop-take n (e - (s + n)) (drop s xs) ∙ ap (take (e - (s + n))) (drop-drop n s xs))

-- the head and the tail of a list without line feeds
head_is_other : (x : ℕ) (xs : List ℕ) → (Contains (x ∷ xs) 10 → ⊥) → eqb x 10 ≡ false
head_is_other x xs none =
    elim (eqb_tells x 10) [ inl h ↦ absurd (none (0, omega arith, h.1)) | inr h ↦ h.0 ]

tail_has_none : (x : ℕ) (xs : List ℕ) → (Contains (x ∷ xs) 10 → ⊥) → Contains xs 10 → ⊥
tail_has_none x xs none w = none (suc w.0, omega (arith, w.1), w.2)

lines_of-other : (x : ℕ) (xs : List ℕ) → eqb x 10 ≡ false → lines_of (x ∷ xs) ≡ onto_first x (lines_of xs)
lines_of-other x xs e = rw e

-- a line and its line feed are the first line
pub lines_of-line : (line rest : List ℕ) → (Contains line 10 → ⊥) → lines_of (line ++ 10 ∷ rest) ≡ line ∷ lines_of rest
lines_of-line [] rest none = refl
lines_of-line (x ∷ line) rest none =
    lines_of-other x (line ++ 10 ∷ rest) (head_is_other x line none)
    ∙ ap (onto_first x) (lines_of-line line rest (tail_has_none x line none))

-- octets without a line feed are one line
pub lines_of-last : (line : List ℕ) → line ≢ [] → (Contains line 10 → ⊥) → lines_of line ≡ line ∷ []
lines_of-last [] some none = absurd (some refl)
lines_of-last (x ∷ []) some none = lines_of-other x [] (head_is_other x [] none)
lines_of-last (x ∷ (y ∷ line)) some none =
    let more : y ∷ line ≢ [] = λ e. cc in
    lines_of-other x (y ∷ line) (head_is_other x (y ∷ line) none)
    ∙ ap (onto_first x) (lines_of-last (y ∷ line) more (tail_has_none x (y ∷ line) none))

-- the first line begins with the octets before a line feed
abbrev Begins : ℕ → List (List ℕ) → Type 0
Begins n lines = (line : List ℕ) × (others : List (List ℕ)) × (lines ≡ line ∷ others) × (n ≤ length line)

begins_more : (x n : ℕ) (lines : List (List ℕ)) → Begins n lines → Begins (suc n) (onto_first x lines)
begins_more x n lines b = (x ∷ b.0, b.1, ap (onto_first x) b.2, omega (arith, b.3))

begins_one : (x : ℕ) (lines : List (List ℕ)) → Begins 1 (onto_first x lines)
begins_one x [] = (x ∷ [], [], refl, omega arith)
begins_one x (line ∷ lines) = (x ∷ line, lines, refl, omega arith)

begins : (x : ℕ) (xs rest : List ℕ) → (Contains (x ∷ xs) 10 → ⊥) → Begins (suc (length xs)) (lines_of (x ∷ (xs ++ rest)))
begins x [] rest none = subst (Begins 1) (sym (lines_of-other x rest (head_is_other x [] none))) (begins_one x (lines_of rest))
begins x (y ∷ xs) rest none =
    subst (Begins (suc (length (y ∷ xs)))) (sym (lines_of-other x (y ∷ xs ++ rest) (head_is_other x (y ∷ xs) none)))
    (begins_more x (suc (length xs)) (lines_of (y ∷ (xs ++ rest))) (begins y xs rest (tail_has_none x (y ∷ xs) none)))

-- the first line is too long where that many octets come before a line feed
pub lines_of-long : (xs rest : List ℕ) → length xs ≡ longest + 1 → (Contains xs 10 → ⊥) → Gives (lines_of (xs ++ rest)) Long (lines_of (xs ++ rest))
lines_of-long [] rest long none = absurd (omega arith)
lines_of-long (x ∷ xs) rest long none =
    let b = begins x xs rest none in
    subst (λ l. Gives l Long l) (sym b.2) (omega (arith, b.3), refl)
