-- By induction over the lines, with what is kept of each seal.
use Rattle.perc_headline.proofs.Runs.{nonces_by_cipher, nonces_by_table}
use Rattle.perc_headline.proofs.laws.each_nonce_once.Goals as goal

pub returns-clause-by_cipher : goal.returns-clause-by_cipher
returns-clause-by_cipher c = nonces_by_cipher (λ octets line is. ((c.one_spelling.ensures octets line).0 is).1)

pub returns-clause-by_table : goal.returns-clause-by_table
returns-clause-by_table c = nonces_by_table (λ octets line is. ((c.one_spelling.ensures octets line).0 is).1)
