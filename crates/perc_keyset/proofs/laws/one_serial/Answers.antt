use Rattle.perc_keyset.proofs.HistoryLaws.{other_side, same_client, same_serial, same_server}
use Rattle.perc_keyset.proofs.laws.one_serial.Goals as goal

pub returns-clause-serial : goal.returns-clause-serial
returns-clause-serial c = same_serial

pub returns-clause-client : goal.returns-clause-client
returns-clause-client c = same_client

pub returns-clause-server : goal.returns-clause-server
returns-clause-server c = same_server

pub returns-clause-apart : goal.returns-clause-apart
returns-clause-apart c = other_side
