use Rattle.std.proofs.Common.{◌≡◌, ◌++◌}
use Rattle.perc_generator.specs.Generator.{lines_text, made_lines}
use Rattle.perc_generator.proofs.generator.write_script.Given as goal

abbrev pub invariant-loop-round : goal.invariant-loop-round
invariant-loop-round l = l.out.items ≡ l.fn.out.items ++ lines_text (made_lines l.round)
