use Rattle.std.proofs.Common.{arith}
use Rattle.perc_aes.proofs.StateLaws.{word_at_is}
use Rattle.perc_aes.proofs.state.word_at.Goals as goal

pub returns : goal.returns
returns c = word_at_is c.args.octets.now c.args.i c.from_be_bytes.result (λ k. omega (arith, c.type_inv.octets k)) c.from_be_bytes.ensures
