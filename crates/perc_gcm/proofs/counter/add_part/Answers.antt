use Rattle.std.proofs.Common.{List, ℕ, get_or, bit_xor, ap, ◌∙◌, arith}
use Rattle.perc_gcm.proofs.counter.add_part.Goals as goal

pub returns-in-Some : goal.returns-in-Some
returns-in-Some c = λ k inside.
    c.add_mask.ensures k (omega (arith, c.requires))
    ∙ ap (λ (xs : List ℕ). bit_xor (get_or xs k 0) (get_or c.args.mask.now k 0)) c.in-Some.ensures.cases.same
