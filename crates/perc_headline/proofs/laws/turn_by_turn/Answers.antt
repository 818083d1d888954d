-- The law is a lemma on runs.
use Rattle.perc_headline.proofs.Said.{turns_of_lines}
use Rattle.perc_headline.proofs.laws.turn_by_turn.Goals as goal

pub returns : goal.returns
returns c = turns_of_lines
