use Rattle.std.proofs.Common.{◌≡◌, [], ◌∷◌, length}
use Rattle.perc_published.specs.Views.{Spells}
use Rattle.perc_published.proofs.Steps.{of_one_history}
use Rattle.perc_published.proofs.laws.one_history.Goals as goal

pub returns-clause-set : goal.returns-clause-set
returns-clause-set c words views kept = (kept.history, kept.shows, of_one_history (Spells words) views kept)

pub returns-clause-tally : goal.returns-clause-tally
returns-clause-tally c table kept = (kept.history, kept.shows, of_one_history (λ history. table.words ≡ length history ∷ []) table.views kept)
