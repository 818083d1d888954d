use Rattle.std.proofs.Common.{◌≡◌, ◌<◌, length, arith}
use Rattle.std.proofs.lemmas.Bool.Decides.{nat_tests}
use Rattle.perc_ohb.specs.Rewriting.{rewrite_of}
use Rattle.perc_distributor.specs.Tables.{names}
use Rattle.perc_distributor.proofs.UnderWay.{forwards_none, forwards_some}
use Rattle.perc_distributor.proofs.worker.Worker.forward.Goals as goal

pub returns-then-is_empty-clause-forwarded : goal.returns-then-is_empty-clause-forwarded
returns-then-is_empty-clause-forwarded c =
    let empty : length c.args.batch.now ≡ 0 = grind (arith, nat_tests) in
    forwards_none c.args.self.now c.args.set.now c.args.batch.now (rewrite_of c.args.change.now) (names c.args.only) c.clear.new.self empty c.clear.ensures

pub returns-clause-forwarded : goal.returns-clause-forwarded
returns-clause-forwarded c =
    let some : 0 < length c.args.batch.now = grind (arith, nat_tests) in
    forwards_some c.args.self.now c.self.inside.table c.keep_set.new.self c.self.inside.share.number c.self.inside.share.of c.args.set.now c.args.batch.now (rewrite_of c.args.change.now) (names c.args.only)
    c.clear.new.self c.send_batch.new.out c.send_batch.new.table c.self.view_is
    (record { some = some; empty = c.clear.ensures; stays = c.keep_set.ensures.staying; sent = c.send_batch.ensures })
