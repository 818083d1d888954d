use Rattle.perc_incoming.proofs.Inquiring.{foreign_is, open_senders}
use Rattle.perc_incoming.proofs.laws.foreign_as_opened.Goals as goal

pub returns-clause-foreign : goal.returns-clause-foreign
returns-clause-foreign c = foreign_is

pub returns-clause-sender : goal.returns-clause-sender
returns-clause-sender c = open_senders
