use Rattle.std.proofs.Common.{List, sym, ap, ◌∙◌}
use Rattle.std.specs.List.{position}
use Rattle.perc_distributor.specs.Kept.{Kept, holds}
use Rattle.perc_distributor.proofs.PlaceLaws.{none_held, place_held}
use Rattle.perc_distributor.proofs.table.Table.place_of.Goals as goal

pub returns-in-Some-clause-place : goal.returns-in-Some-clause-place
returns-in-Some-clause-place c =
    place_held c.args.self.now c.args.serial c.in-Some.at
    (ap (λ (ks : List Kept). position (holds c.args.serial) ks) (sym (c.deref.ensures.value ∙ c.self.view_is)) ∙ sym c.held_at.ensures ∙ c.in-Some.is)

pub take_free-requires : goal.take_free-requires
take_free-requires c =
    let none = none_held c.args.self.now c.args.serial
    (ap (λ (ks : List Kept). position (holds c.args.serial) ks) (sym (c.deref.ensures.value ∙ c.self.view_is)) ∙ sym c.held_at.ensures ∙ c.in-None.is) in
    record { new = none; free = c.requires.room none }
