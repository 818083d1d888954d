use Rattle.std.proofs.Common.{◌∷◌}
use Rattle.std.specs.Fmt.{decimal}
use Rattle.std.proofs.lemmas.Result.{IfOk-equal}
use Rattle.perc_word.specs.Word.{marker_text, payload_text}
use Rattle.perc_report_line.proofs.Appended.{five_appended, starts_again}
use Rattle.perc_report_line.proofs.write.packet.Goals as goal

pub returns-clause-ok : goal.returns-clause-ok
returns-clause-ok c =
    IfOk-equal c.payload_word.result _ _ _ c.payload_word.ensures.ok
    (five_appended c.args.out.now.items _ _ _ _ (32 ∷ decimal c.args.pt) (32 ∷ decimal c.args.seq) (32 ∷ marker_text c.args.marker) (32 ∷ decimal c.args.timestamp) (32 ∷ payload_text c.args.payload.now)
    c.in_ok-number8.ensures.ok c.in_ok-number16.ensures.ok c.in_ok-marker_word.ensures.ok c.in_ok-number32.ensures.ok)

pub returns-clause-kept : goal.returns-clause-kept
returns-clause-kept c = starts_again _ _ _ c.payload_word.ensures.kept (starts_again _ _ _ c.in_ok-number32.ensures.kept (starts_again _ _ _ c.in_ok-marker_word.ensures.kept (starts_again _ _ _ c.in_ok-number16.ensures.kept c.in_ok-number8.ensures.kept)))
