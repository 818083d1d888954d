use Rattle.std.proofs.Common.{◌≡◌, sym, ap, ◌∙◌}
use Rattle.perc_base.specs.declared.profile.Profile.{Profile}
use Rattle.perc_keydist.specs.KeyDistributor.{KeyDistributor, anew}
use Rattle.perc_key_service.proofs.service.KeyService.new.Goals as goal

pub offer-requires-clause-anew : goal.offer-requires-clause-anew
offer-requires-clause-anew c =
    let is = c.in_ok-keydist.ensures in
    is ∙ ap anew (sym (ap (λ (k : KeyDistributor). k.profile) is))

pub invariant_of-result : goal.invariant_of-result
invariant_of-result c = (c.offer.ensures.profile ∙ ap (λ (k : KeyDistributor). k.profile) c.in_ok-keydist.ensures, c.in_ok-offer.ensures.serving)
