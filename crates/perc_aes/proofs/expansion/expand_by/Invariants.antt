use Rattle.std.proofs.Common.{◌≡◌, length, take}
use Rattle.perc_aes.specs.Cipher.{schedule}
use Rattle.perc_aes.specs.Words.{octets_of_words}
use Rattle.perc_aes.proofs.expansion.expand_by.Given as goal

abbrev pub invariant-loop-i : goal.invariant-loop-i
invariant-loop-i l = record {
  size : length l.words ≡ 60;
  key : take l.key_words l.words ≡ take l.key_words l.fn.words;
  done : octets_of_words (take l.i l.words) ≡ schedule (octets_of_words (take l.key_words l.fn.words)) l.i;
}
