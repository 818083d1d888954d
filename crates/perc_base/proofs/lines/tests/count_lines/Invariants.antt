use Rattle.std.proofs.Common.{◌≡◌, List, ℕ, ◌+◌, length, Some, IfSome}
use Rattle.perc_base.specs.Lines.{lines_before}
use Rattle.perc_base.proofs.lines.tests.count_lines.Given as goal

abbrev pub invariant-loop-count : goal.invariant-loop-count
invariant-loop-count g l =
    IfSome (g.S.Source.left l.initial.from) (λ all. (rest : List ℕ) × (g.S.Source.left l.from ≡ Some rest)
    × (length (lines_before l.initial.lines all) ≡ l.count + length (lines_before l.lines rest)))
