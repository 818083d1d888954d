use Rattle.std.proofs.Common.{[]}
use Rattle.perc_contexts.specs.Receiving.{nothing_held}
use Rattle.perc_contexts.specs.History.{Renew}
use Rattle.perc_contexts.proofs.Histories as histories
use Rattle.perc_endpoint.proofs.Running.{each_call}
use Rattle.perc_endpoint.proofs.laws.each_call.Goals as goal

pub returns-clause-start : goal.returns-clause-start
returns-clause-start c = λ profile ssrc index client server first key. histories.each_call nothing_held [] (Renew first.spi) histories.nothing_history tt

pub returns-clause-call : goal.returns-clause-call
returns-clause-call c = each_call
