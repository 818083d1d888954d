-- What is written so far is the pieces up to this one.
use Rattle.std.proofs.Common.{◌≡◌, ◌≤◌, ◌++◌, Some, IfSome, map, take}
use Rattle.std.specs.List.{concat}
use Rattle.perc_app.proofs.write.write_pieces.Given as goal

abbrev pub invariant-loop-piece : goal.invariant-loop-piece
invariant-loop-piece g l =
    IfSome (g.E.Sink.written l.fn.out) (λ before. g.E.Sink.written l.out ≡ Some (before ++ concat (map (λ piece. piece.now) (take l.piece-index l.pieces))))
    × (g.E.Sink.fault_count l.fn.out ≤ g.E.Sink.fault_count l.out)
