use Rattle.std.proofs.Common.{ℕ, List, sym, subst, ◌∙◌}
use Rattle.perc_distributor.specs.Hearing.{HasHeardAt, Hears, IsPlaceFor, Origin}
use Rattle.perc_distributor.proofs.HearingLaws.{Opens, Writes, taken_not, taken_verified, writes_origins, writes_place}
use Rattle.perc_distributor.proofs.inbound.Inbound.take_from.Goals as goal

pub invariant_of-self : goal.invariant_of-self
invariant_of-self c =
    let items : List Origin = c.self.inside.origins.items in
    let serial : ℕ = c.args.entry.now.serial in
    let at : ℕ = c.place_for-at.result in
    let was : Origin = c.index_mut.result.now in
    let now : Origin = c.take-taken.new.self in
    let w : Writes items serial at was now = record {
      place = subst (λ (ks : List Origin). IsPlaceFor ks serial at) (sym c.self.view_is) c.place_for-at.ensures.place;
      is = c.index_mut.ensures.value;
      same = c.take-taken.ensures.serial;
    } in
    writes_origins items serial at was now w c.self.invariant

pub settle-requires-clause-place : goal.settle-requires-clause-place
settle-requires-clause-place c =
    let items : List Origin = c.self.inside.origins.items in
    let serial : ℕ = c.args.entry.now.serial in
    let at : ℕ = c.place_for-at.result in
    let was : Origin = c.index_mut.result.now in
    let now : Origin = c.take-taken.new.self in
    let w : Writes items serial at was now = record {
      place = subst (λ (ks : List Origin). IsPlaceFor ks serial at) (sym c.self.view_is) c.place_for-at.ensures.place;
      is = c.index_mut.ensures.value;
      same = c.take-taken.ensures.serial;
    } in
    writes_place items serial at was now w w.place

pub invariant_of-self-else-is_verified : goal.invariant_of-self-else-is_verified
invariant_of-self-else-is_verified c =
    let items : List Origin = c.self.inside.origins.items in
    let serial : ℕ = c.args.entry.now.serial in
    let at : ℕ = c.place_for-at.result in
    let was : Origin = c.index_mut.result.now in
    let now : Origin = c.take-taken.new.self in
    let w : Writes items serial at was now = record {
      place = subst (λ (ks : List Origin). IsPlaceFor ks serial at) (sym c.self.view_is) c.place_for-at.ensures.place;
      is = c.index_mut.ensures.value;
      same = c.take-taken.ensures.serial;
    } in
    writes_origins items serial at was now w c.self.invariant

pub returns-then-is_verified-clause-taken : goal.returns-then-is_verified-clause-taken
returns-then-is_verified-clause-taken c =
    let items : List Origin = c.self.inside.origins.items in
    let serial : ℕ = c.args.entry.now.serial in
    let at : ℕ = c.place_for-at.result in
    let was : Origin = c.index_mut.result.now in
    let now : Origin = c.take-taken.new.self in
    let w : Writes items serial at was now = record {
      place = subst (λ (ks : List Origin). IsPlaceFor ks serial at) (sym c.self.view_is) c.place_for-at.ensures.place;
      is = c.index_mut.ensures.value;
      same = c.take-taken.ensures.serial;
    } in
    let o : Opens items c.args.entry.now c.args.rtcp c.args.datagram.now at was now c.take-taken.result c.take-taken.new.out = record {
      writes = w;
      heard = subst (λ (ks : List Origin). HasHeardAt ks serial at) (sym c.self.view_is) c.place_for-at.ensures.heard;
      opened = c.take-taken.ensures.opened;
    } in
    λ heard hears.
    let still : Hears items heard = subst (λ (ks : List Origin). Hears ks heard) (sym c.self.view_is) (c.place_for-at.ensures.stands heard hears) in
    taken_verified c.args.set.now items heard c.args.entry.now c.args.rtcp c.args.datagram.now at was now c.take-taken.result c.take-taken.new.out c.settle.new.self o
    (sym c.is_verified.ensures ∙ c.if-is_verified.true) c.settle.ensures.settled still

pub returns-else-is_verified-clause-taken : goal.returns-else-is_verified-clause-taken
returns-else-is_verified-clause-taken c =
    let items : List Origin = c.self.inside.origins.items in
    let serial : ℕ = c.args.entry.now.serial in
    let at : ℕ = c.place_for-at.result in
    let was : Origin = c.index_mut.result.now in
    let now : Origin = c.take-taken.new.self in
    let w : Writes items serial at was now = record {
      place = subst (λ (ks : List Origin). IsPlaceFor ks serial at) (sym c.self.view_is) c.place_for-at.ensures.place;
      is = c.index_mut.ensures.value;
      same = c.take-taken.ensures.serial;
    } in
    let o : Opens items c.args.entry.now c.args.rtcp c.args.datagram.now at was now c.take-taken.result c.take-taken.new.out = record {
      writes = w;
      heard = subst (λ (ks : List Origin). HasHeardAt ks serial at) (sym c.self.view_is) c.place_for-at.ensures.heard;
      opened = c.take-taken.ensures.opened;
    } in
    λ heard hears.
    let still : Hears items heard = subst (λ (ks : List Origin). Hears ks heard) (sym c.self.view_is) (c.place_for-at.ensures.stands heard hears) in
    taken_not c.args.set.now items heard c.args.entry.now c.args.rtcp c.args.datagram.now at was now c.take-taken.result c.take-taken.new.out o
    (sym c.is_verified.ensures ∙ c.if-is_verified.false) still
