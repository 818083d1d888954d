use Rattle.perc_ohb.specs.Rewriting.{rewrite_of}
use Rattle.perc_distributor.proofs.Sending.{sent_err, sent_ok}
use Rattle.perc_distributor.proofs.slot.Slot.send.Goals as goal

pub returns-in-Ok-clause-sent : goal.returns-in-Ok-clause-sent
returns-in-Ok-clause-sent c = λ s packet stands is.
    sent_ok c.args.self.now c.seal.new.self s c.args.entry.now c.args.place c.args.plain.now (rewrite_of c.args.change.now) packet c.seal.result c.seal.new.out c.in-Ok.len
    c.seal.ensures.media c.seal.ensures.control stands is c.in-Ok.is

pub returns-in-Err-clause-sent : goal.returns-in-Err-clause-sent
returns-in-Err-clause-sent c = λ s packet stands is.
    sent_err c.args.self.now c.seal.new.self s c.args.entry.now c.args.place c.args.plain.now (rewrite_of c.args.change.now) packet c.seal.result c.seal.new.out c.in-Err.fault
    c.seal.ensures.media c.seal.ensures.control stands is c.in-Err.is c.in-Err.ensures.refused
