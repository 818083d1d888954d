use Rattle.std.proofs.Common.{◌∷◌}
use Rattle.std.specs.Prelude.{codes}
use Rattle.std.proofs.lemmas.Result.{IfOk-equal}
use Rattle.perc_report_line.proofs.Appended.{two_appended, starts_again}
use Rattle.perc_report_line.proofs.write.left.Goals as goal

pub returns-clause-ok : goal.returns-clause-ok
returns-clause-ok c =
    IfOk-equal c.name_word.result _ _ _ c.name_word.ensures.ok
    (two_appended c.args.out.now.items _ (codes "left") (32 ∷ c.args.name.now)
    c.in_ok-text.ensures.ok)

pub returns-clause-kept : goal.returns-clause-kept
returns-clause-kept c = starts_again _ _ _ c.name_word.ensures.kept c.in_ok-text.ensures.kept
