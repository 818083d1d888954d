-- What is written so far is the text up to the rest.
use Rattle.std.proofs.Common.{◌≡◌, ◌≤◌, ◌++◌, List, ℕ, length, Some, IfSome}
use Rattle.perc_base.proofs.writing.write_all.Given as goal

abbrev pub invariant-loop-rest : goal.invariant-loop-rest
invariant-loop-rest g l =
    IfSome (g.S.Sink.written l.fn.out) (λ before. (done : List ℕ) × (l.fn.text ≡ done ++ l.rest) × (g.S.Sink.written l.out ≡ Some (before ++ done)))
    × (g.S.Sink.fault_count l.fn.out ≤ g.S.Sink.fault_count l.out)

abbrev pub decreases-loop-rest : goal.decreases-loop-rest
decreases-loop-rest g l = length l.rest
