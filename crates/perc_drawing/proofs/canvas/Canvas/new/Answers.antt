use Rattle.perc_drawing.proofs.Drawn.{begun_here}
use Rattle.perc_drawing.proofs.canvas.Canvas.new.Goals as goal

pub invariant_of-result : goal.invariant_of-result
invariant_of-result c = begun_here _ _ c.args.width c.args.height c.new-octets.ensures.items c.in_ok-start.ensures
