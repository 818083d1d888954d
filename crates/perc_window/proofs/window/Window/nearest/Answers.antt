use Rattle.std.proofs.Common.{Some, sym, arith}
use Rattle.perc_window.proofs.IndexLaws.{nearest_found, nearest_missed, nearest_first}
use Rattle.perc_window.proofs.window.Window.nearest.Goals as goal

pub returns-in-Some-clause-found : goal.returns-in-Some-clause-found
returns-in-Some-clause-found c =
    rw (← c.self.view_is, c.in-Some.is)
    (nearest_found (Some c.in-Some.highest) c.args.seq c.nearest_to.result (omega arith) c.nearest_to.ensures)

pub returns-in-Some-clause-none : goal.returns-in-Some-clause-none
returns-in-Some-clause-none c =
    rw (← c.self.view_is, c.in-Some.is)
    (nearest_missed (Some c.in-Some.highest) c.args.seq c.nearest_to.result c.nearest_to.ensures)

pub returns-in-None-clause-value : goal.returns-in-None-clause-value
returns-in-None-clause-value c = λ accepted stands.
    rw (← stands.highest, ← c.self.view_is, c.in-None.is, c.from.ensures) (sym (nearest_first c.args.seq))
