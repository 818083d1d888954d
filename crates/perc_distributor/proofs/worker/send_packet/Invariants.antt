use Rattle.perc_ohb.specs.Rewriting.{rewrite_of}
use Rattle.perc_distributor.specs.Tables.{names}
use Rattle.perc_distributor.proofs.UnderWay.{PacketUnderWay}
use Rattle.perc_distributor.proofs.worker.send_packet.Given as goal

abbrev pub invariant-loop-i : goal.invariant-loop-i
invariant-loop-i l =
    PacketUnderWay l.initial.table l.share.number l.share.of l.set l.i l.place l.plain (rewrite_of l.change) (names l.only) l.initial.out l.out l.table
