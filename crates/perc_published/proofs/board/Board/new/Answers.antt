use Rattle.std.proofs.Common.{rules, ◌≡◌, refl, [], ◌∷◌, replicate, length}
use Rattle.perc_published.specs.Views.{Spells}
use Rattle.perc_published.proofs.Spelling.{none_spelled}
use Rattle.perc_published.proofs.Steps.{begins}
use Rattle.perc_published.proofs.board.Board.new.Goals as goal

pub ruled-requires : goal.ruled-requires
ruled-requires c = (search rules, (search rules, begins (Spells (replicate 1090 0)) none_spelled))

pub of_words-requires : goal.of_words-requires
of_words-requires c = begins (λ history. 0 ∷ [] ≡ length history ∷ []) refl
