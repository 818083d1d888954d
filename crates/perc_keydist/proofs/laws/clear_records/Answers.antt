use Rattle.perc_keydist.proofs.RecordLaws.{clear_only, clear_reads}
use Rattle.perc_keydist.proofs.laws.clear_records.Goals as goal

pub returns-clause-reads : goal.returns-clause-reads
returns-clause-reads c = clear_reads

pub returns-clause-only : goal.returns-clause-only
returns-clause-only c = clear_only
