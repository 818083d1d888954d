use Rattle.std.specs.Fmt.{decimal}
use Rattle.std.proofs.lemmas.Result.{on_ok_weaker}
use Rattle.perc_drawing.proofs.Appended.{five_on}
use Rattle.perc_drawing.proofs.element.pair.Goals as goal

pub returns : goal.returns
returns c =
    on_ok_weaker c.plain-3.result
    (λ e. five_on _ _ _ _ _ _ c.args.before.now (decimal c.args.first) c.args.between.now (decimal c.args.second) c.args.behind.now
    c.in_ok-plain.ensures c.in_ok-number.ensures c.in_ok-plain-2.ensures c.in_ok-number-2.ensures e)
    c.plain-3.ensures
