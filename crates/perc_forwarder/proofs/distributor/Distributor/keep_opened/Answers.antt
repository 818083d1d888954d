use Rattle.std.proofs.Common.{List, [], ◌∷◌, ◌++◌, Ok, ◌∙◌, sym, subst}
use Rattle.std.specs.List.{filter_map}
use Rattle.perc_distributor.specs.Kept.{ArePlain}
use Rattle.perc_distributor.specs.declared.plain.Plain.{Plain}
use Rattle.perc_run.specs.Forwarding.{packet_in}
use Rattle.perc_forwarder.proofs.Takings.{batch_more, takings_more}
use Rattle.perc_forwarder.proofs.distributor.Distributor.keep_opened.Goals as goal

pub returns-clause-taken : goal.returns-clause-taken
returns-clause-taken c taken packet mirrors is = record {
  takings_are = c.in_ok-push-2.ensures.items ∙ takings_more c.args.self.now.takings.items taken _ mirrors.takings_are;
  batch = subst (λ (batch : List Plain). ArePlain batch (filter_map packet_in (taken ++ record { number = c.args.number; result = Ok packet } ∷ []))) (sym c.in_ok-push.ensures.items)
      (batch_more c.args.self.now.batch.items taken c.args.number c.args.plain packet mirrors.batch is);
}
