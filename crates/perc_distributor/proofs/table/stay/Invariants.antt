use Rattle.std.proofs.Common.{◌≡◌, ◌++◌, map, take, drop, vec_len}
use Rattle.perc_distributor.specs.Rooms.{staying}
use Rattle.perc_distributor.proofs.table.stay.Given as goal

abbrev pub invariant-loop-i : goal.invariant-loop-i
invariant-loop-i l = record {
  items : l.slots.items ≡ map (staying l.set) (take l.i l.initial.slots.items) ++ drop l.i l.initial.slots.items;
  size : vec_len l.slots ≡ vec_len l.initial.slots;
}
