use Rattle.std.proofs.Common.{false, [], arith}
use Rattle.perc_ohb.specs.Rewriting.{rewrite_of}
use Rattle.perc_distributor.specs.Tables.{names}
use Rattle.perc_distributor.proofs.UnderWay.{first_all, first_more, plain_there}
use Rattle.perc_distributor.proofs.worker.send_batch.Goals as goal

pub send_packet-requires-clause-plain : goal.send_packet-requires-clause-plain
send_packet-requires-clause-plain c =
    let at = plain_there c.args.batch.now c.requires.plain.0 c.loop-place.place (record { from = []; rtcp = false; octets = []; len = 0; field = 0 }) c.requires.plain.1 (omega arith) in
    (at.packet, at.is)

pub loop-place-preserved : goal.loop-place-preserved
loop-place-preserved c = record {
  sent =
      first_more c.args.table.now c.args.share.number c.args.share.of c.args.set.now c.args.batch.now c.loop-place.place (record { from = []; rtcp = false; octets = []; len = 0; field = 0 }) (rewrite_of c.args.change.now)
      (names c.args.only) c.args.out.now c.loop-place.out c.send_packet.new.out c.loop-place.table c.send_packet.new.table (omega arith) c.loop-place.invariant.sent c.send_packet.ensures.sent;
  only = c.send_packet.ensures.only;
  few = omega arith;
}

pub returns : goal.returns
returns c =
    first_all c.args.table.now c.args.share.number c.args.share.of c.args.set.now c.args.batch.now c.loop-place.place (rewrite_of c.args.change.now) (names c.args.only) c.args.out.now c.loop-place.out c.loop-place.table (omega arith)
    c.loop-place.invariant.sent
