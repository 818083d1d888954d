use Rattle.std.proofs.Common.{◌≡◌, ◌++◌, map, take, drop, vec_len}
use Rattle.perc_distributor.specs.Rooms.{staying}
use Rattle.perc_distributor.proofs.inbound.stay.Given as goal

abbrev pub invariant-loop-i : goal.invariant-loop-i
invariant-loop-i l = record {
  items : l.origins.items ≡ map (staying l.set) (take l.i l.initial.origins.items) ++ drop l.i l.initial.origins.items;
  size : vec_len l.origins ≡ vec_len l.initial.origins;
}
