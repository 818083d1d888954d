use Rattle.perc_keywrap.specs.Wrap.{step}
use Rattle.perc_keywrap.proofs.registers.wrap_step.Goals as goal

pub returns-clause-value : goal.returns-clause-value
unfolding step
returns-clause-value c = cc
