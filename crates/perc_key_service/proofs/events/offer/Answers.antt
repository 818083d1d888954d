use Rattle.std.proofs.Common.{◌≡◌, ℕ, List, sym, ap, subst, ◌∙◌}
use Rattle.perc_tunnel.specs.Message.{TunnelMessage, Fits, message_length}
use Rattle.perc_keeper.specs.Lists.{nothing}
use Rattle.perc_keydist.specs.KeyDistributor.{octets_taken}
use Rattle.perc_key_service.specs.Keeper.{faultless_lists}
use Rattle.perc_key_service.proofs.Offering.{calm_offer, few_anew, fits_offer, idle_anew, leaves_offer, offer_room}
use Rattle.perc_key_service.proofs.Serving.{kept_is, offer_serves}
use Rattle.perc_key_service.proofs.events.offer.Goals as goal

pub hear-requires-clause-fits : goal.hear-requires-clause-fits
hear-requires-clause-fits c = fits_offer _ c.offered.ensures

pub hear-requires-clause-idle : goal.hear-requires-clause-idle
hear-requires-clause-idle c = idle_anew c.args.keydist.now.profile c.args.keydist.now c.requires.anew

pub hear-requires-clause-few : goal.hear-requires-clause-few
hear-requires-clause-few c = few_anew c.args.keydist.now.profile c.args.keydist.now c.requires.anew

pub hear-requires-clause-calm : goal.hear-requires-clause-calm
hear-requires-clause-calm c = λ ready.
    calm_offer c.args.keydist.now.profile c.args.keydist.now (faultless_lists c.args.keeper.now) _ _ c.requires.anew c.offered.ensures

pub returns-clause-serving : goal.returns-clause-serving
returns-clause-serving c =
    offer_serves c.hear.result c.args.keydist.now.profile c.args.keydist.now c.hear.new.keydist _ (faultless_lists c.hear.new.keeper) _ _ c.requires.anew c.hear.ensures.heard
    (offer_room _ (octets_taken c.hear.new.keydist) (octets_taken c.args.keydist.now) c.offered.ensures c.hear.ensures.octets)
    (leaves_offer c.args.keydist.now.profile c.args.keydist.now (faultless_lists c.args.keeper.now) _ _ c.requires.anew c.requires.nothing c.offered.ensures)

pub returns-clause-kept : goal.returns-clause-kept
returns-clause-kept c =
    kept_is c.hear.result c.args.keydist.now c.hear.new.keydist _ (faultless_lists c.hear.new.keeper) nothing _ _ c.hear.ensures.heard
    (λ ready. leaves_offer c.args.keydist.now.profile c.args.keydist.now (faultless_lists c.args.keeper.now) _ _ c.requires.anew c.requires.nothing c.offered.ensures)
