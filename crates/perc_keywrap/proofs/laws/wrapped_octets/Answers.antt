use Rattle.perc_keywrap.proofs.WrapLaws.{length-wrapped, wrapped_in_range}
use Rattle.perc_keywrap.proofs.laws.wrapped_octets.Goals as goal

pub returns-clause-length : goal.returns-clause-length
returns-clause-length c = length-wrapped

pub returns-clause-in_range : goal.returns-clause-in_range
returns-clause-in_range c = wrapped_in_range
