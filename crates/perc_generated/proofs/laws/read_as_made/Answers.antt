use Rattle.perc_generated.proofs.Reading.{made_read, made_split}
use Rattle.perc_generated.proofs.laws.read_as_made.Goals as goal

pub returns-clause-lines : goal.returns-clause-lines
returns-clause-lines c = made_split

pub returns-clause-read : goal.returns-clause-read
returns-clause-read c = λ rounds few. made_read rounds few c.one_spelling.ensures
