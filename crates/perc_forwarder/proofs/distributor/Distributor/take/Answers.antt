use Rattle.std.proofs.Common.{List, subst}
use Rattle.perc_distributor.specs.Hearing.{HasTaken}
use Rattle.perc_distributor.specs.Inbound.{taken}
use Rattle.perc_keyset.specs.declared.Entry.{Entry}
use Rattle.perc_forwarder.proofs.Takings.{mirrors_heard, next_opened, next_refused}
use Rattle.perc_forwarder.proofs.distributor.Distributor.take.Goals as goal

pub returns-in-Ok : goal.returns-in-Ok
returns-in-Ok c s before mirrors has =
    let heard = subst (λ (set : List Entry). HasTaken (taken set s.heard c.args.from.now c.args.octets.now) c.take.result c.take.new.out c.take.new.self) mirrors.set (c.take.ensures.taken s.heard mirrors.heard) in
    next_opened s before c.args.from.now c.args.number c.args.octets.now c.take.new.out c.take.new.self c.keep_opened.result c.take.result c.keep_opened.new.self heard c.in-Ok.is
    (λ packet is. c.keep_opened.ensures.taken before packet (record { takings_are = has.takings_are; batch = has.batch }) is)
    (c.keep_opened.ensures.stays _ (mirrors_heard c.args.self.now s c.take.new.self _ mirrors heard.keeps))

pub returns-in-Err : goal.returns-in-Err
returns-in-Err c s before mirrors has =
    let heard = subst (λ (set : List Entry). HasTaken (taken set s.heard c.args.from.now c.args.octets.now) c.take.result c.take.new.out c.take.new.self) mirrors.set (c.take.ensures.taken s.heard mirrors.heard) in
    next_refused s before c.args.from.now c.args.number c.args.octets.now c.take.new.out c.take.new.self c.keep_refused.result c.take.result c.in-Err.fault c.keep_refused.new.self heard c.in-Err.is
    (c.keep_refused.ensures.taken before (record { takings_are = has.takings_are; batch = has.batch }))
    (c.keep_refused.ensures.stays _ (mirrors_heard c.args.self.now s c.take.new.self _ mirrors heard.keeps))
