use Rattle.std.proofs.Common.{◌≡◌}
use Rattle.perc_station_tests.proofs.stations.publish_members.Given as goal

abbrev pub invariant-loop-number : goal.invariant-loop-number
invariant-loop-number g l = l.publisher.call ≡ l.initial.publisher.call
