use Rattle.std.proofs.Common.{Ok, sym, ◌∙◌}
use Rattle.perc_receiver.specs.Table.{secret_in}
use Rattle.perc_endpoint.proofs.Standing.{after_granted, grant_new, granted_kept, receiver_granted}
use Rattle.perc_endpoint.proofs.endpoint.Endpoint.take_ekt.Goals as goal

pub invariant_of-self-2 : goal.invariant_of-self-2
invariant_of-self-2 c =
    let i = c.self.invariant in
    let e = i.stands.0 in
    let s = i.stands.1 in
    let last = sym (c.latest-latest.ensures e.receiving s.receiving) in
    let size = rw (← c.self.view_is) at c.requires.ekt_key in
    granted_kept c.take_granted.new.self c.grant.new.self c.args.granted.now _ e c.args.key.now c.in_ok-take_granted.ensures.granted size c.in-Ok.ensures.profile (sym s.profile)
    (c.in_ok-take_granted.ensures.taken e.sending s.sending)
    (receiver_granted e.receiving c.args.granted.now c.latest-latest.result c.grant.result c.grant.new.self last c.if-granted-latest.false (c.grant.ensures.answer e.receiving s.receiving))

pub returns-clause-stands : goal.returns-clause-stands
returns-clause-stands c = λ e stands.
    let s = rw (← c.self.view_is) at stands in
    let g = c.args.granted.now in
    let key = c.args.key.now in
    let last = sym (c.latest-latest.ensures e.receiving s.receiving) in
    let answer =
    grant_new e (secret_in g) key c.latest-latest.result last c.if-granted-latest.false (Ok c.in_ok-take_granted.field-0) (sym (c.in_ok-take_granted.ensures.answer e.sending s.sending)) in
    after_granted _ e (secret_in g) key c.in_ok-take_granted.field-0 answer (record {
      profile = c.in-Ok.ensures.profile ∙ s.profile;
      sending = c.in_ok-take_granted.ensures.taken e.sending s.sending;
      receiving =
          receiver_granted e.receiving g c.latest-latest.result c.grant.result c.grant.new.self last c.if-granted-latest.false (c.grant.ensures.answer e.receiving s.receiving);
    })
