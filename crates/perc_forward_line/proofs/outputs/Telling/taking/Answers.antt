use Rattle.perc_ohb.specs.Rewriting.{rewrite_of}
use Rattle.perc_forward_line.proofs.Reporting.{taking_opened, taking_refused}
use Rattle.perc_forward_line.proofs.outputs.Telling.taking.Goals as goal

pub returns-in-None : goal.returns-in-None
returns-in-None c = λ members taken sent t made is code_is at.
    taking_opened members (rewrite_of c.args.self.now.change.now) taken sent c.args.place made t.number t.result c.args.taking.now c.args.datagrams.now.items c.outputs.new.datagrams.items c.outputs.result c.args.text.now.items
    c.outputs.new.text.items code_is c.in-None.is at (λ packet there. c.outputs.ensures members taken sent packet made is there)
