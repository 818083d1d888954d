use Rattle.std.proofs.Common.{◌≡◌, ℕ, ◌++◌, ◌∷◌, [], replicate, ap, ◌∙◌, arith}
use Rattle.perc_distributor.specs.Kept.{Kept}
use Rattle.perc_distributor.specs.Rooms.{free_place}
use Rattle.perc_distributor.proofs.TableLaws.{free_more, free_table}
use Rattle.perc_distributor.proofs.table.Table.with_room.Goals as goal

pub loop-init : goal.loop-init
loop-init c = c.in-Ok.ensures.items

pub loop-preserved : goal.loop-preserved
loop-preserved c =
    c.in_ok-put.ensures ∙ ap (λ (k : Kept). c.loop.slots.items ++ k ∷ []) c.in_ok-slot.ensures ∙ free_more c.loop.slots.items c.loop.counter c.loop.invariant

pub invariant_of-result : goal.invariant_of-result
invariant_of-result c =
    let all : c.loop.counter ≡ 64 = omega arith in
    free_table c.loop.slots.items (c.loop.invariant ∙ ap (λ (n : ℕ). replicate n free_place) all)

pub returns : goal.returns
returns c =
    let all : c.loop.counter ≡ 64 = omega arith in
    c.loop.invariant ∙ ap (λ (n : ℕ). replicate n free_place) all
