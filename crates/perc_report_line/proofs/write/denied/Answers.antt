use Rattle.std.proofs.Common.{◌∷◌}
use Rattle.std.specs.Prelude.{codes}
use Rattle.std.specs.List.{join_with_byte}
use Rattle.std.proofs.lemmas.Result.{IfOk-equal}
use Rattle.perc_report_line.specs.Reasons.{denial_words}
use Rattle.perc_report_line.proofs.Appended.{three_appended, starts_again}
use Rattle.perc_report_line.proofs.write.denied.Goals as goal

pub returns-clause-ok : goal.returns-clause-ok
returns-clause-ok c =
    IfOk-equal c.denial.result _ _ _ c.denial.ensures.ok
    (three_appended c.args.out.now.items _ _ (codes "denied") (32 ∷ c.args.name.now) (32 ∷ join_with_byte 32 (denial_words c.args.reason))
    c.in_ok-text.ensures.ok c.in_ok-name_word.ensures.ok)

pub returns-clause-kept : goal.returns-clause-kept
returns-clause-kept c = starts_again _ _ _ c.denial.ensures.kept (starts_again _ _ _ c.in_ok-name_word.ensures.kept c.in_ok-text.ensures.kept)
