use Rattle.std.proofs.Common.{◌≡◌, ◌++◌, take}
use Rattle.perc_drawing.specs.Element.{attributes_text}
use Rattle.perc_drawing.proofs.element.append_attributes.Given as goal

abbrev pub invariant-loop-each : goal.invariant-loop-each
invariant-loop-each l = l.out.items ≡ l.initial.out.items ++ attributes_text (take l.each-index l.attributes)
