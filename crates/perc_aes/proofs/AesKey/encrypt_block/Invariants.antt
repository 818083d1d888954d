use Rattle.std.proofs.Common.{◌≡◌, ◌-◌}
use Rattle.perc_aes.specs.Cipher.{state_after}
use Rattle.perc_aes.specs.Words.{octets_of}
use Rattle.perc_aes.proofs.AesKey.encrypt_block.Given as goal

abbrev pub invariant-loop-round : goal.invariant-loop-round
invariant-loop-round l = octets_of l.state ≡ state_after l.self l.fn.block (l.round - 1)
