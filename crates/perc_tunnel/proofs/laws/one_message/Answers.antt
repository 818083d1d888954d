use Rattle.perc_tunnel.proofs.Streams.{one_message, no_part_begins}
use Rattle.perc_tunnel.specs.Message.{spelling}
use Rattle.perc_tunnel.proofs.laws.one_message.Goals as goal
use Rattle.std.proofs.Common.{refl, ◌++◌}

pub returns-clause-whole : goal.returns-clause-whole
returns-clause-whole c = one_message

pub returns-clause-part : goal.returns-clause-part
returns-clause-part c = λ m a is p. no_part_begins (spelling m ++ a) (m, a, is, refl) p
