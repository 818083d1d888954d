use Rattle.std.proofs.Common.{◌≡◌, ◌*◌, length, take}
use Rattle.perc_aes.specs.Words.{octets_of_words}
use Rattle.perc_aes.proofs.expansion.copy_key.Given as goal

abbrev pub invariant-loop-i : goal.invariant-loop-i
invariant-loop-i l = record {
  size : length l.words ≡ 60;
  done : octets_of_words (take l.i l.words) ≡ take (4 * l.i) l.key;
}
