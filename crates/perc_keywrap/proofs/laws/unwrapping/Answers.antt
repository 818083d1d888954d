use Rattle.perc_keywrap.proofs.UnwrapLaws.{unwrapped_law, unwrapped_none}
use Rattle.perc_keywrap.proofs.laws.unwrapping.Goals as goal

pub returns-clause-some : goal.returns-clause-some
returns-clause-some c = unwrapped_law

pub returns-clause-none : goal.returns-clause-none
returns-clause-none c = unwrapped_none
