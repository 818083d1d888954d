use Rattle.perc_tunnel.proofs.Streams.{exact_fed, exact_next, exact_answer}
use Rattle.perc_tunnel.proofs.laws.one_call.Goals as goal

pub returns-clause-feed : goal.returns-clause-feed
returns-clause-feed c = exact_fed

pub returns-clause-next : goal.returns-clause-next
returns-clause-next c = λ stream messages d new answer is h.
    (exact_next stream messages d new answer is h, exact_answer stream messages d new answer is h)
