use Rattle.std.proofs.Common.{◌∷◌}
use Rattle.std.specs.Prelude.{codes}
use Rattle.std.specs.Fmt.{decimal}
use Rattle.std.proofs.lemmas.Result.{IfOk-equal}
use Rattle.perc_report_line.proofs.Appended.{two_appended, starts_again}
use Rattle.perc_report_line.proofs.write.ekt.Goals as goal

pub returns-clause-ok : goal.returns-clause-ok
returns-clause-ok c =
    IfOk-equal c.number16.result _ _ _ c.number16.ensures.ok
    (two_appended c.args.out.now.items _ (codes "ekt") (32 ∷ decimal c.args.spi)
    c.in_ok-text.ensures.ok)

pub returns-clause-kept : goal.returns-clause-kept
returns-clause-kept c = starts_again _ _ _ c.number16.ensures.kept c.in_ok-text.ensures.kept
