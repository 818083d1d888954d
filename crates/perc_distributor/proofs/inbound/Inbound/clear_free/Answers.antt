use Rattle.std.proofs.Common.{ℕ, List, Option, sym, ap, subst, ◌∙◌}
use Rattle.std.specs.Prelude.{IsSome}
use Rattle.std.specs.List.{position}
use Rattle.perc_distributor.specs.Kept.{kept_of}
use Rattle.perc_distributor.specs.Rooms.{is_free}
use Rattle.perc_distributor.specs.Hearing.{Origin}
use Rattle.perc_distributor.proofs.PlaceLaws.{free_found}
use Rattle.perc_distributor.proofs.HearingLaws.{Clears, clears_heard, clears_origins, clears_place, clears_stands}
use Rattle.perc_distributor.proofs.inbound.Inbound.clear_free.Goals as goal

pub unwrap-at-requires : goal.unwrap-at-requires
unwrap-at-requires c =
    subst (λ (o : Option ℕ). IsSome o) (ap (λ (ks : List Origin). position is_free ks) (sym c.deref.ensures.value) ∙ sym c.free_at.ensures)
    (free_found c.self.inside.origins.items c.self.invariant.free)

pub invariant_of-self : goal.invariant_of-self
invariant_of-self c =
    let items : List Origin = c.self.inside.origins.items in
    let x : Clears items c.unwrap-at.result c.index_mut.result.now c.clear.new.self = record {
      at_is = ap (λ (ks : List Origin). position is_free ks) (sym c.deref.ensures.value) ∙ sym c.free_at.ensures ∙ c.unwrap-at.ensures;
      is = c.index_mut.ensures.value;
      same = c.clear.ensures.serial;
      nothing = c.clear.ensures.nothing;
    } in
    clears_origins items c.unwrap-at.result c.index_mut.result.now c.clear.new.self x c.self.invariant

pub returns-clause-place : goal.returns-clause-place
returns-clause-place c =
    let items : List Origin = c.self.inside.origins.items in
    let x : Clears items c.unwrap-at.result c.index_mut.result.now c.clear.new.self = record {
      at_is = ap (λ (ks : List Origin). position is_free ks) (sym c.deref.ensures.value) ∙ sym c.free_at.ensures ∙ c.unwrap-at.ensures;
      is = c.index_mut.ensures.value;
      same = c.clear.ensures.serial;
      nothing = c.clear.ensures.nothing;
    } in
    clears_place items c.args.serial c.unwrap-at.result c.index_mut.result.now c.clear.new.self x (ap (λ (ks : List Origin). kept_of ks c.args.serial) c.self.view_is ∙ c.requires.none)

pub returns-clause-stands : goal.returns-clause-stands
returns-clause-stands c =
    let items : List Origin = c.self.inside.origins.items in
    let x : Clears items c.unwrap-at.result c.index_mut.result.now c.clear.new.self = record {
      at_is = ap (λ (ks : List Origin). position is_free ks) (sym c.deref.ensures.value) ∙ sym c.free_at.ensures ∙ c.unwrap-at.ensures;
      is = c.index_mut.ensures.value;
      same = c.clear.ensures.serial;
      nothing = c.clear.ensures.nothing;
    } in
    rw (← c.self.view_is) (clears_stands items c.unwrap-at.result c.index_mut.result.now c.clear.new.self x)

pub returns-clause-heard : goal.returns-clause-heard
returns-clause-heard c =
    let items : List Origin = c.self.inside.origins.items in
    let x : Clears items c.unwrap-at.result c.index_mut.result.now c.clear.new.self = record {
      at_is = ap (λ (ks : List Origin). position is_free ks) (sym c.deref.ensures.value) ∙ sym c.free_at.ensures ∙ c.unwrap-at.ensures;
      is = c.index_mut.ensures.value;
      same = c.clear.ensures.serial;
      nothing = c.clear.ensures.nothing;
    } in
    clears_heard items c.args.serial c.unwrap-at.result c.index_mut.result.now c.clear.new.self x (ap (λ (ks : List Origin). kept_of ks c.args.serial) c.self.view_is ∙ c.requires.none)
