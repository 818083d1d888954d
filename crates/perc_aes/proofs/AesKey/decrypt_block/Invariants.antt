use Rattle.std.proofs.Common.{◌-◌, ◌≤◌}
use Rattle.perc_aes.specs.Words.{octets_of}
use Rattle.perc_aes.proofs.Rounds.{LeadsTo}
use Rattle.perc_aes.proofs.AesKey.decrypt_block.Given as goal

abbrev pub invariant-loop-round : goal.invariant-loop-round
invariant-loop-round l = record {
  some : 1 ≤ l.round;
  leads : LeadsTo l.self (l.round - 1) (octets_of l.state) l.fn.block;
}
