-- By induction over the lines, with what holds before each.
use Rattle.perc_headline.proofs.Runs.{ends_by_cipher, ends_by_table}
use Rattle.perc_headline.proofs.laws.ends_at_foreign.Goals as goal

pub returns-clause-by_cipher : goal.returns-clause-by_cipher
returns-clause-by_cipher c = ends_by_cipher (λ octets line is. ((c.one_spelling.ensures octets line).0 is).1)

pub returns-clause-by_table : goal.returns-clause-by_table
returns-clause-by_table c = ends_by_table (λ octets line is. ((c.one_spelling.ensures octets line).0 is).1)
