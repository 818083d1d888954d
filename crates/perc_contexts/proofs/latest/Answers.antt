-- The last place of the slice holds the latest SPI.
use Rattle.std.proofs.Common.{◌∙◌}
use Rattle.perc_contexts.proofs.Lists.{last_is}
use Rattle.perc_contexts.proofs.latest.Goals as goal

pub returns : goal.returns
returns c = c.copied.ensures ∙ (c.last.ensures.value ∙ last_is c.args.live.now)
