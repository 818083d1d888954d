use Rattle.perc_station_tests.proofs.Making.{IsFilled}
use Rattle.perc_station_tests.proofs.stations.video.Given as goal

abbrev pub invariant-loop-seq : goal.invariant-loop-seq
invariant-loop-seq l = IsFilled l.seq l.batch.items
