use Rattle.perc_ohb.proofs.RewritingLaws.{IsHeader-changed, IsOhb-after}
use Rattle.perc_ohb.proofs.laws.fields_fit.Goals as goal

pub returns-clause-header : goal.returns-clause-header
returns-clause-header c = IsHeader-changed

pub returns-clause-block : goal.returns-clause-block
returns-clause-block c = IsOhb-after
