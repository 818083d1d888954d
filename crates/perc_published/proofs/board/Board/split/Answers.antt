use Rattle.std.proofs.Common.{rules, ap, arith}
use Rattle.perc_published.specs.Calls.{Call}
use Rattle.perc_published.proofs.Steps.{cell_forks, tally_forks}
use Rattle.perc_published.proofs.board.Board.split.Goals as goal

pub split_pass-cell-requires : goal.split_pass-cell-requires
split_pass-cell-requires g c =
    (search rules, (search rules, (ap (λ (k : Call). k.cell) c.requires.call, cell_forks _ _ g.M.Split.left g.M.Split.right c.requires.cell)))

pub split_seat-tally-requires : goal.split_seat-tally-requires
split_seat-tally-requires g c =
    (ap (λ (k : Call). k.tally) c.requires.call, omega (arith, c.requires.board), tally_forks _ _ g.M.Split.left g.M.Split.right c.requires.tally)
