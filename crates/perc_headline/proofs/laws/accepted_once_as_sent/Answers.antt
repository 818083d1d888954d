-- By induction over the lines; the fields of each are within their bounds.
use Rattle.perc_headline.proofs.Runs.{headline_by_cipher, headline_by_table}
use Rattle.perc_headline.proofs.laws.accepted_once_as_sent.Goals as goal

pub returns-clause-by_cipher : goal.returns-clause-by_cipher
returns-clause-by_cipher c = headline_by_cipher (λ octets line is. ((c.one_spelling.ensures octets line).0 is).1)

pub returns-clause-by_table : goal.returns-clause-by_table
returns-clause-by_table c = headline_by_table (λ octets line is. ((c.one_spelling.ensures octets line).0 is).1)
