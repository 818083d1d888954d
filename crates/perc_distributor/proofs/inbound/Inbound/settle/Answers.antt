use Rattle.std.proofs.Common.{List, sym, subst}
use Rattle.perc_distributor.specs.Hearing.{IsPlaceFor, IsSettled, Origin}
use Rattle.perc_distributor.proofs.HearingLaws.{Settles, settles, settles_origins}
use Rattle.perc_distributor.proofs.inbound.Inbound.settle.Goals as goal

pub invariant_of-self : goal.invariant_of-self
invariant_of-self c =
    let items : List Origin = c.self.inside.origins.items in
    let s : Settles c.args.set.now items c.args.serial c.args.at c.index_mut.result.now c.hold.new.self = record {
      few = c.requires.set;
      member = c.requires.member;
      place = subst (λ (ks : List Origin). IsPlaceFor ks c.args.serial c.args.at) (sym c.self.view_is) c.requires.place;
      is = c.index_mut.ensures.value;
      held = c.hold.ensures;
    } in
    settles_origins c.args.set.now items c.args.serial c.args.at c.index_mut.result.now c.hold.new.self c.stay.new.origins.items s c.self.invariant c.stay.ensures

pub returns : goal.returns
returns c =
    let items : List Origin = c.self.inside.origins.items in
    let s : Settles c.args.set.now items c.args.serial c.args.at c.index_mut.result.now c.hold.new.self = record {
      few = c.requires.set;
      member = c.requires.member;
      place = subst (λ (ks : List Origin). IsPlaceFor ks c.args.serial c.args.at) (sym c.self.view_is) c.requires.place;
      is = c.index_mut.ensures.value;
      held = c.hold.ensures;
    } in
    record {
      settled =
          subst (λ (ks : List Origin). IsSettled c.args.set.now c.args.serial ks c.args.at c.stay.new.origins.items) c.self.view_is
          (settles c.args.set.now items c.args.serial c.args.at c.index_mut.result.now c.hold.new.self c.stay.new.origins.items s c.stay.ensures);
    }
