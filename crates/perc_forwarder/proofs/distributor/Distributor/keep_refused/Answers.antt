use Rattle.std.proofs.Common.{◌∙◌}
use Rattle.perc_forwarder.proofs.Takings.{batch_same, takings_more}
use Rattle.perc_forwarder.proofs.distributor.Distributor.keep_refused.Goals as goal

pub returns-clause-taken : goal.returns-clause-taken
returns-clause-taken c taken mirrors = record {
  takings_are = c.in_ok-push.ensures.items ∙ takings_more c.args.self.now.takings.items taken _ mirrors.takings_are;
  batch = batch_same c.args.self.now.batch.items taken c.args.number c.args.fault mirrors.batch;
}
