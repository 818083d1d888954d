use Rattle.std.proofs.Common.{◌∷◌}
use Rattle.std.specs.Prelude.{codes}
use Rattle.std.proofs.lemmas.Result.{IfOk-equal}
use Rattle.uuid.specs.Text.{hyphenated_text, lower}
use Rattle.perc_report_line.proofs.Appended.{three_appended, starts_again}
use Rattle.perc_report_line.proofs.write.joined.Goals as goal

pub returns-clause-ok : goal.returns-clause-ok
returns-clause-ok c =
    IfOk-equal c.uuid.result _ _ _ c.uuid.ensures.ok
    (three_appended c.args.out.now.items _ _ (codes "joined") (32 ∷ c.args.name.now) (32 ∷ hyphenated_text lower c.args.association)
    c.in_ok-text.ensures.ok c.in_ok-name_word.ensures.ok)

pub returns-clause-kept : goal.returns-clause-kept
returns-clause-kept c = starts_again _ _ _ c.uuid.ensures.kept (starts_again _ _ _ c.in_ok-name_word.ensures.kept c.in_ok-text.ensures.kept)
