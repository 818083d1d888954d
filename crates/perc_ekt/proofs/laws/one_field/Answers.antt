use Rattle.perc_ekt.proofs.Fields.{field_of_err, field_of_ok, one_field}
use Rattle.perc_ekt.proofs.laws.one_field.Goals as goal

pub returns-clause-one : goal.returns-clause-one
returns-clause-one c = one_field

pub returns-clause-read : goal.returns-clause-read
returns-clause-read c = λ packet field datagram fits. field_of_ok packet field datagram fits

pub returns-clause-fault : goal.returns-clause-fault
returns-clause-fault c = field_of_err
