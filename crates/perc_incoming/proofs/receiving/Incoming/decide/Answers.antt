use Rattle.std.proofs.Common.{◌≡◌, List, ap, subst, ◌∙◌}
use Rattle.std.specs.Prelude.{map}
use Rattle.perc_receiver.specs.Table.{Secret, secret_in}
use Rattle.perc_receiver.specs.Receiver.{receiving}
use Rattle.perc_incoming.specs.Outcome.{IsDecision, decision}
use Rattle.perc_incoming.proofs.Parts.{decision_taken}
use Rattle.perc_incoming.proofs.Hearing.{refused_inner}
use Rattle.perc_incoming.proofs.receiving.Incoming.decide.Goals as goal

pub returns-clause-answer : goal.returns-clause-answer
returns-clause-answer c = λ r o stands is.
    let s = rw (← c.self.view_is) at stands in
    let secrets : map secret_in c.deref.result.now ≡ r.secrets = ap (map secret_in) c.deref.ensures.value ∙ s.secrets in
    subst (λ (l : List Secret). IsDecision (receiving r) o.header.ssrc (decision l r.contexts o) c.decide_reached.result c.decide_reached.new.room) secrets
    (c.decide_reached.ensures.answer (receiving r) o s.contexts is)

pub returns-clause-taken : goal.returns-clause-taken
returns-clause-taken c =
    let i = c.self.invariant in
    let r = i.stands.0 in
    let o = c.requires.opened in
    rw (← c.self.view_is)
    (decision_taken _ c.args.datagram.now c.args.reached.now c.decide_reached.result c.decide_reached.new.room r o i.stands.1 c.requires.is _
    (c.decide_reached.ensures.answer (receiving r) o i.stands.1.contexts c.requires.is) c.decide_reached.ensures.len)

pub returns-clause-inner : goal.returns-clause-inner
returns-clause-inner c =
    let r = c.self.invariant.stands.0 in
    let o = c.requires.opened in
    refused_inner (receiving r) o.header.ssrc _ _ o c.decide_reached.result c.decide_reached.new.room
    (c.decide_reached.ensures.answer (receiving r) o c.self.invariant.stands.1.contexts c.requires.is)
