use Rattle.std.proofs.Common.{◌∷◌}
use Rattle.std.specs.Prelude.{codes}
use Rattle.std.specs.Fmt.{decimal}
use Rattle.std.specs.List.{join_with_byte}
use Rattle.std.proofs.lemmas.Result.{IfOk-equal}
use Rattle.perc_report_line.specs.Reasons.{refusal_words}
use Rattle.perc_report_line.proofs.Appended.{four_appended, starts_again}
use Rattle.perc_report_line.proofs.write.refuse_media.Goals as goal

pub returns-clause-ok : goal.returns-clause-ok
returns-clause-ok c =
    IfOk-equal c.refusal.result _ _ _ c.refusal.ensures.ok
    (four_appended c.args.out.now.items _ _ _ (codes "refuse") (32 ∷ decimal c.args.datagram) (32 ∷ codes "media") (32 ∷ join_with_byte 32 (refusal_words c.args.reason))
    c.in_ok-text.ensures.ok c.in_ok-number32.ensures.ok c.in_ok-word.ensures.ok)

pub returns-clause-kept : goal.returns-clause-kept
returns-clause-kept c = starts_again _ _ _ c.refusal.ensures.kept (starts_again _ _ _ c.in_ok-word.ensures.kept (starts_again _ _ _ c.in_ok-number32.ensures.kept c.in_ok-text.ensures.kept))
