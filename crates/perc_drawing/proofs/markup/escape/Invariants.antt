use Rattle.std.proofs.Common.{◌≡◌, ◌++◌, take}
use Rattle.perc_drawing.specs.Markup.{escaped}
use Rattle.perc_drawing.proofs.markup.escape.Given as goal

abbrev pub invariant-loop-octet : goal.invariant-loop-octet
invariant-loop-octet l = l.out.items ≡ l.initial.out.items ++ escaped (take l.octet-index l.octets)
