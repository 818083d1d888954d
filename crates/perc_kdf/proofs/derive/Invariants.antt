use Rattle.std.proofs.Common.{◌≡◌, ℕ, ◌/◌, ◌%◌, ◌<◌, get_or, length}
use Rattle.perc_aes.specs.Cipher.{aes}
use Rattle.perc_kdf.specs.Derivation.{counter_block, stream_octet}
use Rattle.perc_kdf.proofs.derive.Given as goal

abbrev pub invariant-loop-k : goal.invariant-loop-k
invariant-loop-k l = record {
  size : length l.out ≡ length l.fn.out;
  width : length l.block ≡ 16;
  done : (j : ℕ) → j < l.k → get_or l.out j 0 ≡ stream_octet l.key l.salt l.label j;
  first : l.k ≡ 0 → l.block ≡ aes l.key (counter_block l.salt l.label 0);
  current : 0 < l.k % 16 → l.block ≡ aes l.key (counter_block l.salt l.label (l.k / 16));
}
