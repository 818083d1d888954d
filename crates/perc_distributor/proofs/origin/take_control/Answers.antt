use Rattle.perc_distributor.proofs.Copies.{control_answer}
use Rattle.perc_distributor.proofs.origin.take_control.Goals as goal

pub returns-in-Ok-clause-answer : goal.returns-in-Ok-clause-answer
returns-in-Ok-clause-answer c = λ before stands.
    control_answer c.args.entry.now c.args.keys.now before c.args.datagram.now c.in-Ok.len c.open_copy.new.out c.args.rtcp.now c.open_copy.new.rtcp _
    (c.in-Ok.ensures.answer before stands) c.put_control.ensures
