-- The window's answer is the nearest index where there is one, and none where there is none.
use Rattle.perc_contexts.proofs.Found.{nearest_by}
use Rattle.perc_contexts.proofs.installed.Installed.nearest.Goals as goal

pub returns : goal.returns
returns c =
    rw (← c.self.view_is) (nearest_by c.self.inside.window.highest c.args.seq c.nearest.result c.ranges.seq.fits c.nearest.ensures.found c.nearest.ensures.none)
