use Rattle.std.proofs.Common.{◌∙◌}
use Rattle.std.proofs.lemmas.List.{take_at}
use Rattle.perc_published.proofs.words.padded_salt.Goals as goal

pub returns : goal.returns
returns c = take_at _ _ 12 c.copy_from_slice.ensures.len ∙ c.copy_from_slice.ensures.after
