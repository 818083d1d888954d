use Rattle.std.proofs.Common.{set, ap, ◌∙◌, arith}
use Rattle.std.proofs.lemmas.List.Edits.{map_over_more}
use Rattle.perc_distributor.specs.Kept.{Kept}
use Rattle.perc_distributor.specs.Rooms.{staying}
use Rattle.perc_distributor.proofs.table.stay.Goals as goal

pub loop-i-preserved : goal.loop-i-preserved
loop-i-preserved c = record {
  items =
      ap (λ (k : Kept). set c.loop-i.slots.items c.loop-i.i k) c.stay.ensures
      ∙ map_over_more (staying c.args.set.now) c.args.slots.now.items c.loop-i.slots.items c.loop-i.i c.index_mut.result.now (omega arith) c.loop-i.invariant.items c.index_mut.ensures.value;
  size = c.loop-i.invariant.size;
}
