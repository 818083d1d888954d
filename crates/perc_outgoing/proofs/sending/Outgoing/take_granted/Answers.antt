-- The key is the newest from then on, under the record's secret.
use Rattle.std.proofs.Common.{sym, ap, subst, ◌∙◌, arith}
use Rattle.perc_sender.specs.Schedule.{Sending, with_key}
use Rattle.perc_receiver.specs.Table.{secret_in}
use Rattle.perc_outgoing.specs.Sending.{after_take}
use Rattle.perc_outgoing.specs.Kept.{Kept, StandsFor}
use Rattle.perc_outgoing.proofs.Standing.{taken_stands}
use Rattle.perc_outgoing.proofs.sending.Outgoing.take_granted.Goals as goal

pub invariant_of-self-2 : goal.invariant_of-self-2
invariant_of-self-2 c =
    let i = c.self.inside in
    let kept : Kept = record { media = i.media; control = i.control; granted = i.granted; sending = i.sender.value; outer = i.outer; rtcp = i.rtcp } in
    let is = c.self.invariant.stands in
    record {
      right = c.requires.right;
      stands = (
        after_take is.0 (secret_in c.args.granted.now) c.args.key.now,
        taken_stands kept is.0 c.args.granted.now c.args.key.now _ is.1 c.requires.right c.requires.key (λ k. omega (arith, c.type_inv.key k)) (c.in_ok-epoch.ensures.taken ∙ ap (λ (s : Sending). with_key s c.args.granted.now.spi c.args.key.now) c.deref_mut.ensures.value),
      );
    }

pub returns-clause-taken : goal.returns-clause-taken
returns-clause-taken c = λ o st.
    let i = c.self.inside in
    let kept : Kept = record { media = i.media; control = i.control; granted = i.granted; sending = i.sender.value; outer = i.outer; rtcp = i.rtcp } in
    let its : StandsFor kept o = subst (λ (k : Kept). StandsFor k o) (sym c.self.view_is) st in
    taken_stands kept o c.args.granted.now c.args.key.now _ its c.requires.right c.requires.key (λ k. omega (arith, c.type_inv.key k)) (c.in_ok-epoch.ensures.taken ∙ ap (λ (s : Sending). with_key s c.args.granted.now.spi c.args.key.now) c.deref_mut.ensures.value)
