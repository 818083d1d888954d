use Rattle.std.proofs.Common.{◌+◌, map, take, drop, arith}
use Rattle.std.specs.List.{concat}
use Rattle.perc_app.proofs.Pieces.{joined_around, joined_more, told_in_front, told_more}
use Rattle.perc_app.proofs.write.write_pieces.Goals as goal

pub returns-in_err-write_all-clause-told : goal.returns-in_err-write_all-clause-told
returns-in_err-write_all-clause-told g c =
    let i = c.loop-piece.piece-index in
    told_in_front _ _ _ (concat (map (λ p. p.now) (take i c.args.pieces.now))) _ (concat (map (λ p. p.now) (drop (i + 1) c.args.pieces.now))) _ _ _ _
    c.loop-piece.invariant.0 c.write_all.ensures.told c.loop-piece.invariant.1 c.in_err-write_all.ensures.failed
    (joined_around (λ p. p.now) c.args.pieces.now i _ (omega arith))

pub loop-piece-preserved : goal.loop-piece-preserved
loop-piece-preserved g c =
    let i = c.loop-piece.piece-index in (
      told_more _ _ _ _ _ _ c.loop-piece.invariant.0 c.in_ok-write_all.ensures.all (joined_more (λ p. p.now) c.args.pieces.now i _ (omega arith)),
      omega (arith, c.loop-piece.invariant.1, c.write_all.ensures.never_falls),
    )
