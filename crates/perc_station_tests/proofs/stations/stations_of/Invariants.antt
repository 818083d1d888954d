use Rattle.perc_station_tests.proofs.Making.{IsMaking}
use Rattle.perc_station_tests.proofs.stations.stations_of.Given as goal

abbrev pub invariant-loop-reader : goal.invariant-loop-reader
invariant-loop-reader l = IsMaking l.fn.readers.items l.count l.reader-iterator.rest.items l.stations.items
