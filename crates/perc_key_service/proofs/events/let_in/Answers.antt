use Rattle.std.proofs.Common.{◌≡◌, ℕ, List, refl, sym, ap, subst, ◌∙◌, arith}
use Rattle.perc_base.specs.declared.profile.Profile.{Profile}
use Rattle.perc_base.specs.Memory.{faultless_randoms_left}
use Rattle.perc_base.specs.Profile.{profile_number}
use Rattle.perc_keydist.specs.Distributing.{Turn}
use Rattle.perc_keydist.specs.KeyDistributor.{octets_taken}
use Rattle.perc_key_service.specs.Keeper.{faultless_lists}
use Rattle.perc_key_service.specs.Replies.{AreReplies}
use Rattle.perc_key_service.specs.Service.{keys_as}
use Rattle.perc_key_service.specs.Serving.{service_of}
use Rattle.perc_key_service.proofs.Serving.{is_idle, joined_serves, leaves_room, out_serves, replies_are, serves}
use Rattle.perc_key_service.proofs.Turns.{hello_fits, hello_octets, hello_of, joined_turn}
use Rattle.perc_key_service.proofs.events.let_in.Goals as goal

pub hear-requires-clause-fits : goal.hear-requires-clause-fits
hear-requires-clause-fits c = hello_fits c.args.profile (profile_number c.args.profile) c.args.association.now _ c.hello-octets.ensures

pub hear-requires-clause-idle : goal.hear-requires-clause-idle
hear-requires-clause-idle c = is_idle (faultless_lists c.args.keeper.now) c.args.keydist.now c.requires.serving

pub hear-requires-clause-few : goal.hear-requires-clause-few
hear-requires-clause-few c = leaves_room (faultless_lists c.args.keeper.now) c.args.keydist.now c.requires.serving

pub hear-requires-clause-calm : goal.hear-requires-clause-calm
hear-requires-clause-calm c = λ ready.
    let l = faultless_lists c.args.keeper.now in
    let k = c.args.keydist.now in
    let s = serves l k c.requires.serving ready in
    let drawn = c.in_ok-randoms.ensures in
    ap (λ (t : Turn). t.fault)
    (joined_turn k l c.args.association.now c.args.client.now c.args.server.now c.requires.may.0 c.requires.may.1 drawn.client drawn.server _ drawn.drawn _ s.accepts
    (hello_of k.profile c.args.profile _ c.requires.profile c.hello-octets.ensures))

pub returns-in_err-hear-clause-serving : goal.returns-in_err-hear-clause-serving
returns-in_err-hear-clause-serving c =
    let k = c.args.keydist.now in
    out_serves (faultless_lists c.args.keeper.now) k c.requires.serving (faultless_lists c.hear.new.keeper) c.hear.new.keydist 29 c.in_err-hear.ensures.refused
    (hello_octets c.args.profile (profile_number c.args.profile) _ (octets_taken k) (octets_taken c.hear.new.keydist) c.hello-octets.ensures c.hear.ensures.octets) (omega arith) c.hear.ensures.stays

pub returns-clause-serving : goal.returns-clause-serving
returns-clause-serving c =
    let l = faultless_lists c.args.keeper.now in
    let k = c.args.keydist.now in
    let h = c.in_ok-hear.ensures.heard in
    let s = serves l k c.requires.serving h.ready in
    let drawn = c.in_ok-randoms.ensures in
    let t = joined_turn k l c.args.association.now c.args.client.now c.args.server.now c.requires.may.0 c.requires.may.1 drawn.client drawn.server _ drawn.drawn _ s.accepts
    (hello_of k.profile c.args.profile _ c.requires.profile c.hello-octets.ensures) in
    joined_serves l _ k c.hear.new.keydist (faultless_lists c.hear.new.keeper) _ _ (keys_as (service_of k l) c.args.association.now c.args.client.now c.args.server.now) s h
    (ap (λ (u : Turn). u.state.accepted) t ∙ s.accepts) (ap (λ (u : Turn). u.state.lists) t)
    (hello_octets c.args.profile (profile_number c.args.profile) _ (octets_taken k) (octets_taken c.hear.new.keydist) c.hello-octets.ensures c.hear.ensures.octets) c.requires.may.1.few

pub returns-clause-joined : goal.returns-clause-joined
returns-clause-joined c =
    let l = faultless_lists c.args.keeper.now in
    let k = c.args.keydist.now in
    let h = c.in_ok-hear.ensures.heard in
    let s = serves l k c.requires.serving h.ready in
    let drawn = c.in_ok-randoms.ensures in
    let t = joined_turn k l c.args.association.now c.args.client.now c.args.server.now c.requires.may.0 c.requires.may.1 drawn.client drawn.server _ drawn.drawn _ s.accepts
    (hello_of k.profile c.args.profile _ c.requires.profile c.hello-octets.ensures) in
    h.keeps ∙ ap (λ (u : Turn). u.state.lists) t

pub returns-clause-replies : goal.returns-clause-replies
returns-clause-replies c = λ granted may.
    let l = faultless_lists c.args.keeper.now in
    let k = c.args.keydist.now in
    let h = c.in_ok-hear.ensures.heard in
    let s = serves l k c.requires.serving h.ready in
    let drawn = c.in_ok-randoms.ensures in
    let t = joined_turn k l c.args.association.now c.args.client.now c.args.server.now granted may drawn.client drawn.server _ drawn.drawn _ s.accepts
    (hello_of k.profile c.args.profile _ c.requires.profile c.hello-octets.ensures) in
    subst (λ (p : Profile). AreReplies p (keys_as (service_of k l) c.args.association.now c.args.client.now c.args.server.now) granted c.hear.new.out.items) c.requires.profile
    (replies_are l _ k c.hear.new.keydist (faultless_lists c.hear.new.keeper) _ _ c.args.association.now c.args.client.now c.args.server.now granted s h may c.hear.ensures.message.0.0 drawn.client
    drawn.server c.new-out.ensures.items (ap (λ (u : Turn). u.replies) t))
