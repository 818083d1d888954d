use Rattle.std.proofs.Common.{◌≡◌, Ok, Result, ap, ◌∙◌}
use Rattle.perc_base.specs.declared.lines.LineRead.{LineRead}
use Rattle.perc_base.specs.declared.outside.Failed.{Failed}
use Rattle.perc_replay.proofs.Stepping.{next_failed, next_goes, next_long, next_stops, runs_on}
use Rattle.perc_replay.proofs.run.turn_next.Goals as goal

as_ok : {x y : LineRead} → x ≡ y → ◌≡◌ {A = Result LineRead Failed} (Ok x) (Ok y)
as_ok e = ap (λ (z : LineRead). Ok z) e

pub returns-in-Ok-clause-turn : goal.returns-in-Ok-clause-turn
returns-in-Ok-clause-turn g c = λ s orderly mirrors.
    next_goes c.always_orderly.ensures.next s _ _ _ _ c.next.result c.in-Ok-Line.line c.in-Ok.told _ _ _ c.next.follows.holds-at-none (c.in-Ok-Line.is ∙ as_ok c.in-Ok-Line.field-0-is) orderly
    (c.in-Ok.ensures s orderly mirrors)

pub returns-in-Ok-clause-grows : goal.returns-in-Ok-clause-grows
returns-in-Ok-clause-grows g c =
    runs_on c.always_orderly.ensures.next (λ octets line is. ((c.one_spelling.ensures octets line).0 is).1) c.args.conference.now c.turn.new.conference c.in-Ok-Line.line.now c.in-Ok.told _ _
    c.requires.running c.in-Ok.ensures

pub returns-in-Err-turn-clause-turn : goal.returns-in-Err-turn-clause-turn
returns-in-Err-turn-clause-turn g c = λ s orderly mirrors.
    next_stops s _ _ _ _ c.next.result c.in-Ok-Line.line c.in-Err-turn.stop _ _ _ c.next.follows.holds-at-none
    (c.in-Ok-Line.is ∙ as_ok c.in-Ok-Line.field-0-is) (c.in-Err-turn.ensures s orderly mirrors)

pub returns-in-Ok-Long-clause-turn : goal.returns-in-Ok-Long-clause-turn
returns-in-Ok-Long-clause-turn g c = λ s orderly mirrors.
    next_long s _ _ _ _ c.next.result c.args.text.now.items c.args.text.now.items c.args.conference.now c.next.follows.holds-at-none (c.in-Ok-Long.is ∙ as_ok c.in-Ok-Long.field-0-is)

pub returns-in-Err-clause-turn : goal.returns-in-Err-clause-turn
returns-in-Err-clause-turn g c = λ s orderly mirrors.
    next_failed s _ _ _ _ c.next.result c.in-Err.field-0 c.args.text.now.items c.args.text.now.items c.args.conference.now c.next.follows.holds-at-none c.in-Err.is
