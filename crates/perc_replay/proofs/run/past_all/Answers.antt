use Rattle.std.proofs.Common.{◌≡◌, Ok, Result, ap, ◌∙◌}
use Rattle.perc_base.specs.declared.lines.LineRead.{LineRead}
use Rattle.perc_base.specs.declared.outside.Failed.{Failed}
use Rattle.perc_replay.proofs.Stepping.{failed_breaks, past_line, past_long}
use Rattle.perc_replay.proofs.run.past_all.Goals as goal

as_ok : {x y : LineRead} → x ≡ y → ◌≡◌ {A = Result LineRead Failed} (Ok x) (Ok y)
as_ok e = ap (λ (z : LineRead). Ok z) e

pub returns-in-Ok-Line-clause-end : goal.returns-in-Ok-Line-clause-end
returns-in-Ok-Line-clause-end g c =
    past_line _ _ _ _ c.next.result c.in-Ok-Line.field-0-0 c.args.counts c.at_limit.result c.next.follows.holds-at-none (c.in-Ok-Line.is ∙ as_ok c.in-Ok-Line.field-0-is) c.at_limit.ensures

pub returns-in-Ok-Long-clause-end : goal.returns-in-Ok-Long-clause-end
returns-in-Ok-Long-clause-end g c =
    past_long _ _ _ _ c.next.result c.args.counts c.at_limit-in-Ok-Long.result c.next.follows.holds-at-none (c.in-Ok-Long.is ∙ as_ok c.in-Ok-Long.field-0-is) c.at_limit-in-Ok-Long.ensures

pub returns-in-Err-clause-broken : goal.returns-in-Err-clause-broken
returns-in-Err-clause-broken g c = λ is. failed_breaks _ _ _ _ c.next.result c.in-Err.field-0 c.next.follows.holds-at-none c.in-Err.is
