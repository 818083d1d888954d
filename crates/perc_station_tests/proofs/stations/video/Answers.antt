use Rattle.std.proofs.Common.{◌+◌, sym, subst}
use Rattle.perc_station_tests.proofs.Making.{IsFilled, filled_more}
use Rattle.perc_station_tests.proofs.stations.video.Goals as goal

pub loop-seq-preserved : goal.loop-seq-preserved
loop-seq-preserved c =
    let l = c.loop-seq in
    subst (IsFilled (l.seq + 1)) (sym c.in-Ok-push.ensures.items) (filled_more l.seq l.batch.items c.in-Ok.plain l.invariant c.in-Ok.ensures)
