use Rattle.std.proofs.Common.{arith}
use Rattle.perc_window.proofs.MarkLaws.{set_low, set_high}
use Rattle.perc_window.proofs.marks.Marked.set.Goals as goal

pub returns-then-place-lt-WORD : goal.returns-then-place-lt-WORD
returns-then-place-lt-WORD c =
    rw (← c.self.view_is) (set_low c.self.inside.low c.self.inside.high c.args.place (omega arith))

pub returns-else-place-lt-WORD : goal.returns-else-place-lt-WORD
returns-else-place-lt-WORD c =
    rw (← c.self.view_is) (set_high c.self.inside.low c.self.inside.high c.args.place (omega arith) (omega arith))
