use Rattle.std.proofs.Common.{◌≡◌, ℕ, ◌+◌, ◌<◌, ◌≤◌, Bool, Option, IfSome, length, sym, ap, subst, ◌∙◌, add-zero, rules, arith, refl}
use Rattle.std.proofs.lemmas.Result.{err_from_is_err_and}
use Rattle.perc_keydist.specs.Feeding.{count_next}
use Rattle.perc_keydist.proofs.CallLaws.{once_on, once_same}
use Rattle.perc_keydist.proofs.Running.{at_most_one, counts, held_ends, held_first, held_on}
use Rattle.perc_keydist.proofs.distributor.hear_held.Goals as goal

pub loop-has_left-init : goal.loop-has_left-init
loop-has_left-init g c = record {
  heard = held_first c.args.decoder.now c.args.desk.now _ _ _ _ c.requires.ready;
  once = once_same _ _ _ _ _ refl refl;
  ready = c.requires.ready;
  all = refl;
  few = omega arith;
  profile = refl;
  kept = refl;
  keeper = omega arith;
  hand = omega arith;
  randoms = omega arith;
}

pub returns-in_err-has_left-clause-heard : goal.returns-in_err-has_left-clause-heard
returns-in_err-has_left-clause-heard g c =
    let i = c.loop-has_left.invariant in
    let e = err_from_is_err_and c.from_residual.result c.from_residual.ensures.1 in
    rw (e.1, e.2) (held_ends c.args.decoder.now.held c.args.decoder.now.given c.loop-has_left.decoder c.hear_next.new.decoder c.args.desk.now c.loop-has_left.desk c.hear_next.new.desk
    c.loop-has_left.left
    _ _ _ _ _ _ _ _ _ _ _ i.heard i.kept i.profile count_next c.in_err-has_left.field-0.0 c.in_err-has_left.ensures.heard)

pub returns-clause-heard : goal.returns-clause-heard
returns-clause-heard g c =
    let i = c.loop-has_left.invariant in
    held_on c.args.decoder.now.held c.args.decoder.now.given c.loop-has_left.decoder c.hear_next.new.decoder c.args.desk.now c.loop-has_left.desk c.hear_next.new.desk c.loop-has_left.left
    _ _ _ _ _ _ _ _ _ _ _ i.heard i.kept i.profile count_next c.in_ok-has_left.field-0 c.loop-has_left.left
    (ap (λ (o : Option Bool). c.loop-has_left.left + count_next o) c.in_default.is ∙ add-zero c.loop-has_left.left) c.in_ok-has_left.ensures.heard

pub loop-has_left-preserved : goal.loop-has_left-preserved
loop-has_left-preserved g c =
    let i = c.loop-has_left.invariant in
    let count : count_next c.in_ok-has_left.field-0 ≡ c.from-left.result = ap count_next c.in-Some.is ∙ counts c.in-Some.has_left ∙ sym c.from-left.ensures in
    let fewer = subst (λ (o : Option Bool). IfSome o (λ _. length c.hear_next.new.decoder.held < length c.loop-has_left.decoder.held)) c.in-Some.is c.in_ok-has_left.ensures.fewer in
    let one : c.from-left.result ≤ 1 = subst (λ (k : ℕ). k ≤ 1) (sym c.from-left.ensures) (at_most_one c.in-Some.has_left) in
    record {
      heard = held_on c.args.decoder.now.held c.args.decoder.now.given c.loop-has_left.decoder c.hear_next.new.decoder c.args.desk.now c.loop-has_left.desk c.hear_next.new.desk
          c.loop-has_left.left
          _ _ _ _ _ _ _ _ _ _ _ i.heard i.kept i.profile count_next c.in_ok-has_left.field-0 _ (ap (λ (k : ℕ). c.loop-has_left.left + k) count) c.in_ok-has_left.ensures.heard;
      once = once_on (g.H.Handshake.answers c.args.hand.now) (g.H.Handshake.answers c.loop-has_left.hand) (g.K.Keeper.lists c.args.keeper.now) (g.K.Keeper.lists c.loop-has_left.keeper)
          (g.K.Keeper.lists c.hear_next.new.keeper) c.args.out.now.items c.loop-has_left.out.items c.hear_next.new.out.items c.loop-has_left.invariant.once c.loop-has_left.invariant.kept c.hear_next.ensures.once;
      ready = search rules;
      all = c.in_ok-has_left.ensures.all ∙ i.all;
      few = omega (arith, i.few, c.in_ok-has_left.ensures.all, fewer, one);
      profile = search rules;
      kept = search rules;
      keeper = search rules;
      hand = search rules;
      randoms = search rules;
    }

pub returns-in_err-has_left-clause-once : goal.returns-in_err-has_left-clause-once
returns-in_err-has_left-clause-once g c =
    once_on (g.H.Handshake.answers c.args.hand.now) (g.H.Handshake.answers c.loop-has_left.hand) (g.K.Keeper.lists c.args.keeper.now) (g.K.Keeper.lists c.loop-has_left.keeper)
    (g.K.Keeper.lists c.hear_next.new.keeper) c.args.out.now.items c.loop-has_left.out.items c.hear_next.new.out.items c.loop-has_left.invariant.once c.loop-has_left.invariant.kept c.hear_next.ensures.once

pub returns-clause-once : goal.returns-clause-once
returns-clause-once g c =
    once_on (g.H.Handshake.answers c.args.hand.now) (g.H.Handshake.answers c.loop-has_left.hand) (g.K.Keeper.lists c.args.keeper.now) (g.K.Keeper.lists c.loop-has_left.keeper)
    (g.K.Keeper.lists c.hear_next.new.keeper) c.args.out.now.items c.loop-has_left.out.items c.hear_next.new.out.items c.loop-has_left.invariant.once c.loop-has_left.invariant.kept c.hear_next.ensures.once
