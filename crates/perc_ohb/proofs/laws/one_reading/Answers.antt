use Rattle.perc_ohb.proofs.ReadingLaws.{block_is_read, block_read, block_refused}
use Rattle.perc_ohb.proofs.laws.one_reading.Goals as goal

pub returns-clause-block : goal.returns-clause-block
returns-clause-block c = block_is_read

pub returns-clause-read : goal.returns-clause-read
returns-clause-read c = block_read

pub returns-clause-fault : goal.returns-clause-fault
returns-clause-fault c = block_refused
