use Rattle.perc_keydist.proofs.CallLaws.{begins_once, calls_safe}
use Rattle.perc_keydist.proofs.laws.calls_in_a_row.Goals as goal

pub returns-clause-safe : goal.returns-clause-safe
returns-clause-safe c = calls_safe

pub returns-clause-begins : goal.returns-clause-begins
returns-clause-begins c = begins_once
