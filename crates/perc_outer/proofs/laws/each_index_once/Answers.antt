use Rattle.perc_outer.proofs.Outer.{accepted_past, accepted_with, reached_once}
use Rattle.perc_outer.proofs.laws.each_index_once.Goals as goal

pub returns-clause-once : goal.returns-clause-once
returns-clause-once c = reached_once

pub returns-clause-accepted : goal.returns-clause-accepted
returns-clause-accepted c = accepted_with

pub returns-clause-others : goal.returns-clause-others
returns-clause-others c = accepted_past
