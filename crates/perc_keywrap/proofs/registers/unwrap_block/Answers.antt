use Rattle.std.proofs.Common.{arith}
use Rattle.perc_keywrap.proofs.registers.unwrap_block.Goals as goal

pub returns-clause-octets : goal.returns-clause-octets
returns-clause-octets c = λ k. omega (arith, c.type_inv.octets k)
