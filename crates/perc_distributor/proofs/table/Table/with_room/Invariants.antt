use Rattle.std.proofs.Common.{◌≡◌, replicate}
use Rattle.perc_distributor.specs.Rooms.{free_place}
use Rattle.perc_distributor.proofs.table.Table.with_room.Given as goal

abbrev pub invariant-loop : goal.invariant-loop
invariant-loop l = l.slots.items ≡ replicate l.counter free_place
