use Rattle.std.proofs.Common.{◌∷◌}
use Rattle.std.specs.Prelude.{codes}
use Rattle.std.specs.Fmt.{decimal}
use Rattle.std.proofs.lemmas.Result.{IfOk-equal}
use Rattle.perc_report_line.proofs.Appended.{four_appended, starts_again}
use Rattle.perc_report_line.proofs.write.rekeyed.Goals as goal

pub returns-clause-ok : goal.returns-clause-ok
returns-clause-ok c =
    IfOk-equal c.number16-2.result _ _ _ c.number16-2.ensures.ok
    (four_appended c.args.out.now.items _ _ _ (codes "rekeyed") (32 ∷ c.args.name.now) (32 ∷ decimal c.args.spi) (32 ∷ decimal c.args.epoch)
    c.in_ok-text.ensures.ok c.in_ok-name_word.ensures.ok c.in_ok-number16.ensures.ok)

pub returns-clause-kept : goal.returns-clause-kept
returns-clause-kept c = starts_again _ _ _ c.number16-2.ensures.kept (starts_again _ _ _ c.in_ok-number16.ensures.kept (starts_again _ _ _ c.in_ok-name_word.ensures.kept c.in_ok-text.ensures.kept))
