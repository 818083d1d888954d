-- The last place of the slice holds the newest key.
use Rattle.std.proofs.Common.{◌∙◌}
use Rattle.perc_sender.proofs.Keys.{newest_at}
use Rattle.perc_sender.proofs.last_taken.Goals as goal

pub returns : goal.returns
returns c = c.last.ensures.value ∙ newest_at c.args.keys.now
