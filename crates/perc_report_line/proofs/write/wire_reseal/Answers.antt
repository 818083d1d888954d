use Rattle.std.proofs.Common.{◌∷◌}
use Rattle.std.specs.Prelude.{codes}
use Rattle.std.specs.Fmt.{decimal}
use Rattle.std.proofs.lemmas.Result.{IfOk-equal}
use Rattle.hex.specs.Hex.{encode_lower}
use Rattle.perc_report_line.proofs.Appended.{five_appended, starts_again}
use Rattle.perc_report_line.proofs.write.wire_reseal.Goals as goal

pub returns-clause-ok : goal.returns-clause-ok
returns-clause-ok c =
    IfOk-equal c.hexadecimal.result _ _ _ c.hexadecimal.ensures.ok
    (five_appended c.args.out.now.items _ _ _ _ (codes "wire") (32 ∷ decimal c.args.datagram) (32 ∷ codes "reseal") (32 ∷ c.args.name.now) (32 ∷ encode_lower c.args.octets.now)
    c.in_ok-text.ensures.ok c.in_ok-number32.ensures.ok c.in_ok-word.ensures.ok c.in_ok-name_word.ensures.ok)

pub returns-clause-kept : goal.returns-clause-kept
returns-clause-kept c = starts_again _ _ _ c.hexadecimal.ensures.kept (starts_again _ _ _ c.in_ok-name_word.ensures.kept (starts_again _ _ _ c.in_ok-word.ensures.kept (starts_again _ _ _ c.in_ok-number32.ensures.kept c.in_ok-text.ensures.kept)))
