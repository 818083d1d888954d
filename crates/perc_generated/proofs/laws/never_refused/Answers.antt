use Rattle.perc_generated.proofs.Passing.{passes_unrefused}
use Rattle.perc_generated.proofs.Whole.{IsAt, keeps_rounds}
use Rattle.perc_generated.proofs.laws.never_refused.Goals as goal

pub returns : goal.returns
returns c = λ rounds few.
    passes_unrefused IsAt rounds (keeps_rounds c.one_spelling.ensures c.always_orderly.ensures.next c.always_orderly.ensures.first) c.one_spelling.ensures few
