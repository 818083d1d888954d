use Rattle.std.proofs.Common.{ℕ, List, ◌++◌, drop, ap₂, ◌∙◌, append-nil}
use Rattle.std.proofs.lemmas.List.{drop_at, take_at}
use Rattle.perc_published.proofs.words.joined.Goals as goal

pub returns : goal.returns
returns c =
    let front = c.copy_from_slice.new.self in
    let back = c.copy_from_slice-2.new.self in
    ap₂ (λ (xs ys : List ℕ). xs ++ (back ++ drop 16 ys)) (take_at front _ 16 c.copy_from_slice.ensures.len) (drop_at front _ 16 c.copy_from_slice.ensures.len)
    ∙ ap₂ (λ (xs ys : List ℕ). xs ++ ys) c.copy_from_slice.ensures.after (append-nil back ∙ c.copy_from_slice-2.ensures.after)
