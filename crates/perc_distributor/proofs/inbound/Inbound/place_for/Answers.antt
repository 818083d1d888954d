use Rattle.std.proofs.Common.{List, inl, sym, ap, ◌∙◌}
use Rattle.std.specs.List.{position}
use Rattle.perc_distributor.specs.Kept.{holds}
use Rattle.perc_distributor.specs.Hearing.{Origin}
use Rattle.perc_distributor.proofs.PlaceLaws.{none_held, place_held}
use Rattle.perc_distributor.proofs.HearingLaws.{heard_there}
use Rattle.perc_distributor.proofs.inbound.Inbound.place_for.Goals as goal

pub clear_free-requires : goal.clear_free-requires
clear_free-requires c = record {
  none =
      none_held c.args.self.now c.args.serial
      (ap (λ (ks : List Origin). position (holds c.args.serial) ks) (sym (c.deref.ensures.value ∙ c.self.view_is)) ∙ sym c.held_at.ensures ∙ c.in-None.is);
}

pub returns-in-Some-clause-place : goal.returns-in-Some-clause-place
returns-in-Some-clause-place c =
    inl (place_held c.args.self.now c.args.serial c.in-Some.at
    (ap (λ (ks : List Origin). position (holds c.args.serial) ks) (sym (c.deref.ensures.value ∙ c.self.view_is)) ∙ sym c.held_at.ensures ∙ c.in-Some.is))

pub returns-in-Some-clause-heard : goal.returns-in-Some-clause-heard
returns-in-Some-clause-heard c =
    heard_there c.args.self.now c.args.serial c.in-Some.at
    (place_held c.args.self.now c.args.serial c.in-Some.at
    (ap (λ (ks : List Origin). position (holds c.args.serial) ks) (sym (c.deref.ensures.value ∙ c.self.view_is)) ∙ sym c.held_at.ensures ∙ c.in-Some.is))
