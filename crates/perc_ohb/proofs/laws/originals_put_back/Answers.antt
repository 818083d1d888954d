use Rattle.perc_ohb.proofs.RewritingLaws.{restored_after, restored_after_all, restored_with}
use Rattle.perc_ohb.proofs.laws.originals_put_back.Goals as goal

pub returns-clause-change : goal.returns-clause-change
returns-clause-change c = restored_after

pub returns-clause-extension : goal.returns-clause-extension
returns-clause-extension c = restored_with

pub returns-clause-changes : goal.returns-clause-changes
returns-clause-changes c = restored_after_all
