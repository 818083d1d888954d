use Rattle.std.proofs.Common.{◌≡◌, take}
use Rattle.perc_published.specs.Words.{set_in}
use Rattle.perc_published.proofs.words.fill.Given as goal

abbrev pub invariant-loop-i : goal.invariant-loop-i
invariant-loop-i l = l.set ≡ take l.i (set_in l.words)
