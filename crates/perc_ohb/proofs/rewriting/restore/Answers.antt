use Rattle.std.proofs.Common.{sym, ◌∙◌}
use Rattle.perc_ohb.proofs.RewritingLaws.{length-restored}
use Rattle.perc_ohb.proofs.rewriting.restore.Goals as goal

pub returns-clause-len : goal.returns-clause-len
returns-clause-len c = λ h rest is. c.cut_header-len.ensures.len h rest is ∙ sym (length-restored h c.args.ohb.now)
