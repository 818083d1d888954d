-- By cases on the form of the line.
use Rattle.perc_headline.proofs.Orderly.{orderly_next, orderly_nobody}
use Rattle.perc_headline.proofs.laws.always_orderly.Goals as goal

pub returns-clause-first : goal.returns-clause-first
returns-clause-first c = orderly_nobody

pub returns-clause-next : goal.returns-clause-next
returns-clause-next c = orderly_next (λ octets line is. ((c.one_spelling.ensures octets line).0 is).1)
