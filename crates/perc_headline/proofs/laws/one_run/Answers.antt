-- By induction over the lines, with what holds before each.
use Rattle.perc_headline.proofs.Runs.{one_run}
use Rattle.perc_headline.proofs.laws.one_run.Goals as goal

pub returns : goal.returns
returns c = one_run (λ octets line is. ((c.one_spelling.ensures octets line).0 is).1)
