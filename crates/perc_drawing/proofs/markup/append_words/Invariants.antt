use Rattle.std.proofs.Common.{◌≡◌, ◌++◌, take}
use Rattle.perc_drawing.specs.Markup.{words_text}
use Rattle.perc_drawing.proofs.markup.append_words.Given as goal

abbrev pub invariant-loop-each : goal.invariant-loop-each
invariant-loop-each l = l.out.items ≡ l.initial.out.items ++ words_text (take l.each-index l.words)
