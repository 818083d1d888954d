use Rattle.std.proofs.Common.{◌≡◌, refl, ap, rules, arith}
use Rattle.std.proofs.lemmas.Result.{err_from_is_err_and}
use Rattle.perc_tunnel.specs.Decoding.{Decoding}
use Rattle.perc_keydist.proofs.CallLaws.{once_on, once_same}
use Rattle.perc_keydist.proofs.Running.{goes_fed, goes_first, goes_on_held, goes_wrong}
use Rattle.perc_keydist.proofs.distributor.hear_all.Goals as goal

pub loop-rest-init : goal.loop-rest-init
loop-rest-init g c = record {
  heard = goes_first c.args.decoder.now c.args.bytes.now c.args.desk.now _ _ _ _;
  once = once_same _ _ _ _ _ refl refl;
  ready = c.requires.ready;
  part = c.requires.part;
  all = refl;
  few = omega arith;
  profile = refl;
  kept = refl;
  keeper = omega arith;
  hand = omega arith;
  randoms = omega arith;
}

pub returns-in_err-left-clause-heard : goal.returns-in_err-left-clause-heard
returns-in_err-left-clause-heard g c =
    let i = c.loop-rest.invariant in
    let f = c.feed_front-rest in
    let first = goes_fed _ _ c.args.desk.now c.loop-rest.desk c.loop-rest.left _ _ _ _ _ _ _ c.loop-rest.decoder f.new.decoder c.loop-rest.rest.now f.result.now f.ensures.held f.ensures.rest
    i.heard in
    let e = err_from_is_err_and c.from_residual.result c.from_residual.ensures.1 in
    rw (e.1, e.2) (goes_wrong _ _ c.args.desk.now c.loop-rest.desk c.loop-rest.left _ _ _ _ _ _ _ f.new.decoder c.hear_held.new.decoder f.result.now c.hear_held.new.desk _ _ _ _ first i.kept
    i.profile
    c.in_err-left.field-0.0 c.in_err-left.ensures.heard)

pub loop-rest-preserved : goal.loop-rest-preserved
loop-rest-preserved g c =
    let i = c.loop-rest.invariant in
    let f = c.feed_front-rest in
    let first = goes_fed _ _ c.args.desk.now c.loop-rest.desk c.loop-rest.left _ _ _ _ _ _ _ c.loop-rest.decoder f.new.decoder c.loop-rest.rest.now f.result.now f.ensures.held f.ensures.rest
    i.heard in
    let given : f.new.decoder.given ≡ c.loop-rest.decoder.given = ap (λ (d : Decoding). d.given) f.ensures.held in
    record {
      heard = goes_on_held _ _ c.args.desk.now c.loop-rest.desk c.loop-rest.left _ _ _ _ _ _ _ f.new.decoder c.hear_held.new.decoder f.result.now c.hear_held.new.desk _ _ _ _ first i.kept
          i.profile
          c.in_ok-left.field-0 _ refl c.in_ok-left.ensures.heard;
      once = once_on (g.H.Handshake.answers c.args.hand.now) (g.H.Handshake.answers c.loop-rest.hand) (g.K.Keeper.lists c.args.keeper.now) (g.K.Keeper.lists c.loop-rest.keeper)
          (g.K.Keeper.lists c.hear_held.new.keeper) c.args.out.now.items c.loop-rest.out.items c.hear_held.new.out.items c.loop-rest.invariant.once c.loop-rest.invariant.kept c.hear_held.ensures.once;
      ready = search rules;
      part = search rules;
      all = omega (arith, given, c.in_ok-left.ensures.all, f.ensures.all, i.all);
      few = omega (arith, given, c.in_ok-left.ensures.left, i.few);
      profile = search rules;
      kept = search rules;
      keeper = search rules;
      hand = search rules;
      randoms = search rules;
    }

pub returns-in_err-left-clause-once : goal.returns-in_err-left-clause-once
returns-in_err-left-clause-once g c =
    once_on (g.H.Handshake.answers c.args.hand.now) (g.H.Handshake.answers c.loop-rest.hand) (g.K.Keeper.lists c.args.keeper.now) (g.K.Keeper.lists c.loop-rest.keeper)
    (g.K.Keeper.lists c.hear_held.new.keeper) c.args.out.now.items c.loop-rest.out.items c.hear_held.new.out.items c.loop-rest.invariant.once c.loop-rest.invariant.kept c.hear_held.ensures.once
