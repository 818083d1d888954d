use Rattle.std.proofs.Common.{ℕ, List, sym, subst}
use Rattle.perc_ohb.specs.Rewriting.{rewrite_of}
use Rattle.perc_distributor.specs.Forwarding.{sealing_of}
use Rattle.perc_distributor.specs.Kept.{Kept, StandsFor}
use Rattle.perc_distributor.specs.Tables.{IsPlaceOf, OnlyOf}
use Rattle.perc_distributor.proofs.SendingOn.{Sends, sends_one, sends_only, sends_table, stands_at}
use Rattle.perc_distributor.proofs.table.Table.send.Goals as goal

pub invariant_of-self : goal.invariant_of-self
invariant_of-self c =
    let items : List Kept = c.self.inside.slots.items in
    let serial : ℕ = c.args.entry.now.serial in
    let s : Sends items serial c.place_of-at.result c.index_mut.result.now c.send.new.self = record {
      place = subst (λ (ks : List Kept). IsPlaceOf ks serial c.place_of-at.result) (sym c.self.view_is) c.place_of-at.ensures.place;
      is = c.index_mut.ensures.value;
      same = c.send.ensures.serial;
    } in
    sends_table items serial c.place_of-at.result c.index_mut.result.now c.send.new.self s c.self.invariant

pub returns-clause-sent : goal.returns-clause-sent
returns-clause-sent c = λ sealing packet stands is.
    let items : List Kept = c.self.inside.slots.items in
    let serial : ℕ = c.args.entry.now.serial in
    let s : Sends items serial c.place_of-at.result c.index_mut.result.now c.send.new.self = record {
      place = subst (λ (ks : List Kept). IsPlaceOf ks serial c.place_of-at.result) (sym c.self.view_is) c.place_of-at.ensures.place;
      is = c.index_mut.ensures.value;
      same = c.send.ensures.serial;
    } in
    let still : StandsFor items sealing = subst (λ (ks : List Kept). StandsFor ks sealing) (sym c.self.view_is) (c.place_of-at.ensures.stands sealing stands) in
    let sent = c.send.ensures.sent (sealing_of sealing serial) packet (stands_at items sealing serial c.place_of-at.result c.index_mut.result.now s.place s.is still) is in
    sends_one items sealing c.args.entry.now c.place_of-at.result c.index_mut.result.now c.send.new.self c.args.place (rewrite_of c.args.change.now) packet c.send.result s still sent

pub returns-clause-only : goal.returns-clause-only
returns-clause-only c = λ entries member only.
    let items : List Kept = c.self.inside.slots.items in
    let serial : ℕ = c.args.entry.now.serial in
    let s : Sends items serial c.place_of-at.result c.index_mut.result.now c.send.new.self = record {
      place = subst (λ (ks : List Kept). IsPlaceOf ks serial c.place_of-at.result) (sym c.self.view_is) c.place_of-at.ensures.place;
      is = c.index_mut.ensures.value;
      same = c.send.ensures.serial;
    } in
    sends_only items serial c.place_of-at.result c.index_mut.result.now c.send.new.self s entries
    (subst (λ (ks : List Kept). OnlyOf entries ks) (sym c.self.view_is) (c.place_of-at.ensures.only entries member only))
