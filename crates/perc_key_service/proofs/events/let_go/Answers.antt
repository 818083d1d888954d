use Rattle.std.proofs.Common.{◌≡◌}
use Rattle.perc_base.specs.Memory.{faultless_randoms_left}
use Rattle.perc_tunnel.specs.Message.{EndpointDisconnect}
use Rattle.perc_keeper.specs.Lists.{without_member}
use Rattle.perc_key_service.specs.Hearing.{turn_at}
use Rattle.perc_key_service.specs.Keeper.{faultless_lists}
use Rattle.perc_key_service.proofs.Serving.{is_idle, kept_is, leaves_room, let_go_serves, serves}
use Rattle.perc_key_service.proofs.Turns.{ended_calm, ended_leaves}
use Rattle.perc_key_service.proofs.events.let_go.Goals as goal

pub hear-requires-clause-idle : goal.hear-requires-clause-idle
hear-requires-clause-idle c = is_idle (faultless_lists c.args.keeper.now) c.args.keydist.now c.requires.serving

pub hear-requires-clause-few : goal.hear-requires-clause-few
hear-requires-clause-few c = leaves_room (faultless_lists c.args.keeper.now) c.args.keydist.now c.requires.serving

pub hear-requires-clause-calm : goal.hear-requires-clause-calm
hear-requires-clause-calm c = λ ready.
    ended_calm c.args.keydist.now (faultless_lists c.args.keeper.now) _ c.args.association.now (serves (faultless_lists c.args.keeper.now) c.args.keydist.now c.requires.serving ready).accepts c.requires.member

pub returns-clause-serving : goal.returns-clause-serving
returns-clause-serving c =
    let_go_serves c.hear.result (faultless_lists c.args.keeper.now) c.args.keydist.now c.hear.new.keydist _ (faultless_lists c.hear.new.keeper) _ _ c.args.association.now c.requires.serving
    c.requires.member c.hear.ensures.heard c.hear.ensures.refused c.hear.ensures.octets c.hear.ensures.stays
    (λ ready. ended_leaves c.args.keydist.now (faultless_lists c.args.keeper.now) _ c.args.association.now
    (serves (faultless_lists c.args.keeper.now) c.args.keydist.now c.requires.serving ready).accepts c.requires.member)

pub returns-clause-left : goal.returns-clause-left
returns-clause-left c =
    kept_is c.hear.result c.args.keydist.now c.hear.new.keydist _ (faultless_lists c.hear.new.keeper) (without_member c.args.association.now (faultless_lists c.args.keeper.now)) _ _ c.hear.ensures.heard
    (λ ready. ended_leaves c.args.keydist.now (faultless_lists c.args.keeper.now) _ c.args.association.now
    (serves (faultless_lists c.args.keeper.now) c.args.keydist.now c.requires.serving ready).accepts c.requires.member)
