use Rattle.perc_endpoint.proofs.Standing.{reached_blocked, reached_decided, reached_refused}
use Rattle.perc_endpoint.proofs.laws.parts_of_receive.Goals as goal

pub returns-clause-refused : goal.returns-clause-refused
returns-clause-refused c = reached_refused

pub returns-clause-blocked : goal.returns-clause-blocked
returns-clause-blocked c = reached_blocked

pub returns-clause-decided : goal.returns-clause-decided
returns-clause-decided c = reached_decided
