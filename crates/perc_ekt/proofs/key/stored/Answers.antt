use Rattle.std.proofs.Common.{ℕ, List, ◌++◌, length, drop, replicate, ap, ◌∙◌}
use Rattle.perc_ekt.proofs.Keys.{zeros_behind}
use Rattle.perc_ekt.proofs.key.stored.Goals as goal

pub returns : goal.returns
returns c =
    ap (λ (r : List ℕ). r ++ drop (length c.args.key.now) (replicate 32 0)) c.copy_from_slice.ensures.after
    ∙ zeros_behind c.args.key.now c.requires
