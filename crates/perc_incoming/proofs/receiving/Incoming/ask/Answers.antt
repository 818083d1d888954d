use Rattle.std.proofs.Common.{◌≡◌, ap, ◌∙◌}
use Rattle.std.specs.Prelude.{map}
use Rattle.perc_receiver.specs.Table.{secret_in}
use Rattle.perc_receiver.specs.Receiver.{receiving}
use Rattle.perc_incoming.proofs.Parts.{decision_taken}
use Rattle.perc_incoming.proofs.receiving.Incoming.ask.Goals as goal

pub returns-clause-answer : goal.returns-clause-answer
returns-clause-answer c = λ r o stands is.
    let s = rw (← c.self.view_is) at stands in
    let secrets : map secret_in c.deref.result.now ≡ r.secrets = ap (map secret_in) c.deref.ensures.value ∙ s.secrets in
    c.inquire.ensures.answer r o secrets s.contexts is

pub returns-clause-taken : goal.returns-clause-taken
returns-clause-taken c =
    let i = c.self.invariant in
    let r = i.stands.0 in
    let o = c.requires.opened in
    let secrets : map secret_in c.deref.result.now ≡ r.secrets = ap (map secret_in) c.deref.ensures.value ∙ i.stands.1.secrets in
    rw (← c.self.view_is)
    (decision_taken _ c.args.datagram.now c.args.reached.now c.inquire.result.decision c.inquire.new.room r o i.stands.1 c.requires.is _
    (c.inquire.ensures.answer r o secrets i.stands.1.contexts c.requires.is).decision_is c.inquire.ensures.len)
