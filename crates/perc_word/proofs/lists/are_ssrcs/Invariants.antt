use Rattle.std.proofs.Common.{◌≡◌, ◌-◌, is_some}
use Rattle.perc_word.specs.Word.{ssrc_in, ssrcs_in}
use Rattle.perc_word.specs.Left.{items_left}
use Rattle.perc_word.proofs.Items.{is_read}
use Rattle.perc_word.proofs.lists.are_ssrcs.Given as goal

-- the items that are left decide
abbrev pub invariant-loop : goal.invariant-loop
invariant-loop l = is_read ssrc_in (l.most - l.counter) (items_left l.left) ≡ is_some (ssrcs_in l.most l.word)
