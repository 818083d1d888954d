use Rattle.std.proofs.Common.{◌≡◌, Ok, Result, ap, ◌∙◌}
use Rattle.perc_base.specs.declared.lines.LineRead.{LineRead}
use Rattle.perc_base.specs.declared.outside.Failed.{Failed}
use Rattle.perc_drawing.proofs.Reading.{past_fault, past_line, past_long}
use Rattle.perc_drawing.proofs.report.note_next.Goals as goal

as_ok : {x y : LineRead} → x ≡ y → ◌≡◌ {A = Result LineRead Failed} (Ok x) (Ok y)
as_ok e = ap (λ (z : LineRead). Ok z) e

pub returns-in-Ok-Line-clause-told : goal.returns-in-Ok-Line-clause-told
returns-in-Ok-Line-clause-told g c =
    past_line _ _ _ _ _ c.next.result c.in-Ok-Line.line c.note_line.result c.next.follows.holds-at-none
    (c.in-Ok-Line.is ∙ as_ok c.in-Ok-Line.field-0-is) c.note_line.ensures

pub returns-in-Ok-Long-clause-told : goal.returns-in-Ok-Long-clause-told
returns-in-Ok-Long-clause-told g c =
    past_long _ _ _ _ _ c.next.result c.next.follows.holds-at-none (c.in-Ok-Long.is ∙ as_ok c.in-Ok-Long.field-0-is)

pub returns-in-Err-clause-told : goal.returns-in-Err-clause-told
returns-in-Err-clause-told g c = past_fault c.args.number _ _ _ _ c.next.result c.in-Err.field-0 c.next.follows.holds-at-none c.in-Err.is
