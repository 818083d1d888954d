-- The sum of octets, one after another.
use Rattle.std.proofs.Common.{◌≡◌, ℕ, suc, ◌+◌, ◌%◌, ◌^◌, ◌<◌, List, length, take, get_or, sym, ap, ◌∙◌}
use Rattle.std.proofs.Math.Nat.{mod-add-mod}
use Rattle.std.proofs.Math.Seq.{take-suc}
use Rattle.std.proofs.lemmas.List.Sums.{sum_by_push}
use Rattle.std.specs.List.{sum_by}
use Rattle.perc_app.specs.Made.{sum_of}

pub sum_more : (xs : List ℕ) (i d : ℕ) → i < length xs → sum_of (take (suc i) xs) ≡ (sum_of (take i xs) + get_or xs i d) % 2 ^ 32
sum_more xs i d h =
    ap (λ (l : List ℕ). sum_by (λ (o : ℕ). o) l % 2 ^ 32) (take-suc xs i d h)
    ∙ ap (λ n. n % 2 ^ 32) (sum_by_push (λ (o : ℕ). o) (take i xs) (get_or xs i d))
    ∙ sym (mod-add-mod (sum_by (λ (o : ℕ). o) (take i xs)) (2 ^ 32) (get_or xs i d))
