use Rattle.std.proofs.Common.{ℕ, List, Option, sym, ap, subst, ◌∙◌}
use Rattle.std.specs.Prelude.{IsSome}
use Rattle.std.specs.List.{position}
use Rattle.perc_distributor.specs.Kept.{Kept, kept_of}
use Rattle.perc_distributor.specs.Rooms.{is_free}
use Rattle.perc_distributor.proofs.PlaceLaws.{free_found}
use Rattle.perc_distributor.proofs.TableLaws.{Takes, taken_only, taken_place, taken_stands, taken_table}
use Rattle.perc_distributor.proofs.table.Table.take_free.Goals as goal

pub unwrap-at-requires : goal.unwrap-at-requires
unwrap-at-requires c =
    subst (λ (o : Option ℕ). IsSome o) (ap (λ (ks : List Kept). position is_free ks) (sym (c.deref.ensures.value ∙ c.self.view_is)) ∙ sym c.free_at.ensures)
    (free_found c.args.self.now c.requires.free)

pub invariant_of-self : goal.invariant_of-self
invariant_of-self c =
    let items : List Kept = c.self.inside.slots.items in
    let t : Takes items c.args.serial c.unwrap-at.result = record {
      table = c.self.invariant;
      new = ap (λ (ks : List Kept). kept_of ks c.args.serial) c.self.view_is ∙ c.requires.new;
      free = ap (λ (ks : List Kept). position is_free ks) (sym c.deref.ensures.value) ∙ sym c.free_at.ensures ∙ c.unwrap-at.ensures;
    } in
    taken_table items c.args.serial c.unwrap-at.result c.begin.new.self t c.begin.ensures

pub returns-clause-place : goal.returns-clause-place
returns-clause-place c =
    let items : List Kept = c.self.inside.slots.items in
    let t : Takes items c.args.serial c.unwrap-at.result = record {
      table = c.self.invariant;
      new = ap (λ (ks : List Kept). kept_of ks c.args.serial) c.self.view_is ∙ c.requires.new;
      free = ap (λ (ks : List Kept). position is_free ks) (sym c.deref.ensures.value) ∙ sym c.free_at.ensures ∙ c.unwrap-at.ensures;
    } in
    taken_place items c.args.serial c.unwrap-at.result c.begin.new.self t c.begin.ensures

pub returns-clause-stands : goal.returns-clause-stands
returns-clause-stands c =
    let items : List Kept = c.self.inside.slots.items in
    let t : Takes items c.args.serial c.unwrap-at.result = record {
      table = c.self.invariant;
      new = ap (λ (ks : List Kept). kept_of ks c.args.serial) c.self.view_is ∙ c.requires.new;
      free = ap (λ (ks : List Kept). position is_free ks) (sym c.deref.ensures.value) ∙ sym c.free_at.ensures ∙ c.unwrap-at.ensures;
    } in
    rw (← c.self.view_is) (taken_stands items c.args.serial c.unwrap-at.result c.begin.new.self t c.begin.ensures)

pub returns-clause-only : goal.returns-clause-only
returns-clause-only c =
    let items : List Kept = c.self.inside.slots.items in
    let t : Takes items c.args.serial c.unwrap-at.result = record {
      table = c.self.invariant;
      new = ap (λ (ks : List Kept). kept_of ks c.args.serial) c.self.view_is ∙ c.requires.new;
      free = ap (λ (ks : List Kept). position is_free ks) (sym c.deref.ensures.value) ∙ sym c.free_at.ensures ∙ c.unwrap-at.ensures;
    } in
    rw (← c.self.view_is) (taken_only items c.args.serial c.unwrap-at.result c.begin.new.self t c.begin.ensures)
