use Rattle.std.proofs.Common.{◌∙◌, sym, arith}
use Rattle.perc_word.proofs.Items.{left_none}
use Rattle.perc_word.proofs.lists.are_ssrcs.Goals as goal

pub returns : goal.returns
returns c = left_none _ c.loop.left _ _ (sym c.is_none-2.ensures) (omega arith) ∙ c.loop.invariant
