use Rattle.perc_gcm.proofs.FieldBody.{times_x_odd, times_x_even}
use Rattle.perc_gcm.proofs.field.times_x.Goals as goal

pub returns-then-element-eq1 : goal.returns-then-element-eq1
returns-then-element-eq1 c = times_x_odd c.args.element c.if-element-eq1.true

pub returns-else-element-eq1 : goal.returns-else-element-eq1
returns-else-element-eq1 c = times_x_even c.args.element c.if-element-eq1.false
