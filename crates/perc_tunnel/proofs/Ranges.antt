-- Parts of a range.
use Rattle.std.proofs.Common.{◌≡◌, ℕ, ◌+◌, ◌-◌, ◌≤◌, List, ◌++◌, length, take, drop, arith, sym, ap, ◌∙◌}
use Rattle.std.specs.List.{slice_range}
use Rattle.std.proofs.lemmas.Slice.{between_is}
use Rattle.std.proofs.lemmas.List.{take-take, drop-drop, drop-take, drop-append-le, length-take-le, length-append, take_at, drop_at}
use Rattle.std.proofs.Math.Seq.{take-add}

pub range-front : (xs : List ℕ) (s e n : ℕ) → s + n ≤ e → slice_range xs s (s + n) ≡ take n (slice_range xs s e)
range-front xs s e n h =
    let same : s + n - s ≡ n = omega arith in
    ap (λ k. take k (drop s xs)) same ∙ sym (take-take n (e - s) (drop s xs) (omega arith))

pub range-back : (xs : List ℕ) (s e n : ℕ) → s + n ≤ e → slice_range xs (s + n) e ≡ drop n (slice_range xs s e)
range-back xs s e n h =
    let rest : e - s ≡ n + (e - (s + n)) = omega arith in
    sym (ap (λ k. drop n (take k (drop s xs))) rest ∙ drop-take n (e - (s + n)) (drop s xs) ∙ ap (take (e - (s + n))) (drop-drop n s xs))

-- the range goes on by n
pub range-more : (xs : List ℕ) (s e n : ℕ) → s ≤ e → e + n ≤ length xs → slice_range xs s (e + n) ≡ slice_range xs s e ++ slice_range xs e (e + n)
range-more xs s e n ordered fits =
    let long : length (take e xs) ≡ e = length-take-le e xs (omega arith) in
    let size : n ≡ e + n - e = omega arith in
    between_is xs s (e + n) ∙ ap (drop s) (take-add e n xs) ∙ drop-append-le s (take e xs) (take n (drop e xs)) (omega arith)
    ∙ ap (λ l. l ++ take n (drop e xs)) (sym (between_is xs s e))
    ∙ ap (λ k. slice_range xs s e ++ take k (drop e xs)) size

-- what was written behind a range
pub range-written : (xs ys part rest : List ℕ) (s e n : ℕ) → s ≤ e → e + n ≤ length xs → length part ≡ n → ys ≡ take e xs ++ (part ++ rest)
    → slice_range ys s (e + n) ≡ slice_range xs s e ++ part
range-written xs ys part rest s e n ordered fits len is =
    let front : length (take e xs) ≡ e = length-take-le e xs (omega arith) in
    let kept : take e ys ≡ take e xs = ap (take e) is ∙ take_at (take e xs) (part ++ rest) e front in
    let behind : drop e ys ≡ part ++ rest = ap (drop e) is ∙ drop_at (take e xs) (part ++ rest) e front in
    let size : length ys ≡ e + length (part ++ rest) = ap length is ∙ length-append (take e xs) (part ++ rest) ∙ ap (λ k. k + length (part ++ rest)) front in
    let long : e + n ≤ length ys = omega (arith, size, length-append part rest) in
    let same : e + n - e ≡ n = omega arith in
    range-more ys s e n ordered long
    ∙ ap (λ l. l ++ slice_range ys e (e + n)) (between_is ys s e ∙ ap (drop s) kept ∙ sym (between_is xs s e))
    ∙ ap (λ k. slice_range xs s e ++ take k (drop e ys)) same
    ∙ ap (λ l. slice_range xs s e ++ take n l) behind
    ∙ ap (λ l. slice_range xs s e ++ l) (take_at part rest n len)
