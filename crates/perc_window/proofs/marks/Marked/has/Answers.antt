use Rattle.std.proofs.Common.{arith}
use Rattle.std.proofs.lemmas.Bool.Decides.{nat_tests}
use Rattle.perc_window.proofs.MarkLaws.{marks_at}
use Rattle.perc_window.proofs.marks.Marked.has.Goals as goal

pub returns-then-place-lt-WORD : goal.returns-then-place-lt-WORD
returns-then-place-lt-WORD c =
    let at = marks_at c.self.inside.low c.self.inside.high c.args.place (omega arith) in
    grind (arith, nat_tests)

pub returns-else-place-lt-WORD : goal.returns-else-place-lt-WORD
returns-else-place-lt-WORD c =
    let at = marks_at c.self.inside.low c.self.inside.high c.args.place (omega arith) in
    grind (arith, nat_tests)
