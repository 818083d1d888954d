use Rattle.perc_tunnel.proofs.Streams.{next_answer}
use Rattle.perc_tunnel.proofs.laws.next_answer.Goals as goal

pub returns : goal.returns
returns c = next_answer
