-- Each output in turn.
use Rattle.perc_headline.proofs.SealLaws.{control_sealed, sent_twice, step_so}
use Rattle.perc_headline.proofs.laws.seals_of_packets.Goals as goal

pub returns-clause-sent : goal.returns-clause-sent
returns-clause-sent c m content = sent_twice m.endpoint.sending content

pub returns-clause-control : goal.returns-clause-control
returns-clause-control c m plain = control_sealed m.endpoint.sending plain

pub returns-clause-forwarded : goal.returns-clause-forwarded
returns-clause-forwarded c set batch change only sealing = step_so 0 1 set batch change only sealing
