use Rattle.std.proofs.Common.{◌*◌, ◌≤◌, length}
use Rattle.perc_ohb.specs.Rewriting.{rewrite_of}
use Rattle.perc_distributor.specs.Tables.{OnlyOf, names}
use Rattle.perc_distributor.proofs.UnderWay.{SendsFirst}
use Rattle.perc_distributor.proofs.worker.send_batch.Given as goal

abbrev pub invariant-loop-place : goal.invariant-loop-place
invariant-loop-place l = record {
  sent : SendsFirst l.initial.table l.share.number l.share.of l.set l.batch l.place (rewrite_of l.change) (names l.only) l.initial.out l.out l.table;
  only : OnlyOf l.set l.table;
  few : length l.out ≤ 64 * l.place;
}
