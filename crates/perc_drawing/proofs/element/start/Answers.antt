use Rattle.std.proofs.lemmas.Result.{on_ok_weaker}
use Rattle.perc_drawing.specs.Element.{size_text, view_box_text}
use Rattle.perc_drawing.proofs.Appended.{two_on}
use Rattle.perc_drawing.proofs.element.start.Goals as goal

pub returns : goal.returns
returns c =
    on_ok_weaker c.pair-2.result
    (λ e. two_on _ _ _ (size_text c.args.width c.args.height) (view_box_text c.args.width c.args.height) c.in_ok-pair.ensures e) c.pair-2.ensures
