use Rattle.std.proofs.Common.{rules, ap}
use Rattle.perc_published.specs.Calls.{Call}
use Rattle.perc_published.proofs.Steps.{cell_enters}
use Rattle.perc_published.proofs.board.Board.read.Goals as goal

pub load_as-requires : goal.load_as-requires
load_as-requires g c =
    (search rules, (search rules, (ap (λ (k : Call). k.cell) c.requires, cell_enters _ _)))
