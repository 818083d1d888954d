use Rattle.std.proofs.Common.{◌≡◌, ◌≤◌, drop}
use Rattle.perc_word.specs.Word.{value_onto}
use Rattle.perc_word.proofs.numbers.number.Given as goal

-- what the digits so far stand for
abbrev pub invariant-loop-digit : goal.invariant-loop-digit
invariant-loop-digit l = record {
  rest : value_onto l.number (drop l.digit-index l.word) ≡ value_onto 0 l.word;
  bound : l.number ≤ l.greatest;
}
