use Rattle.std.proofs.Common.{◌≡◌, length, take, drop, slice_index}
use Rattle.perc_published.specs.Words.{entries_of}
use Rattle.perc_published.proofs.words.spell.Given as goal

abbrev pub invariant-loop-i : goal.invariant-loop-i
invariant-loop-i l = record {
  size : length l.words ≡ 1090;
  count : slice_index l.words 0 ≡ l.published;
  len : slice_index l.words 1 ≡ length l.set;
  done : entries_of l.i (drop 2 l.words) ≡ take l.i l.set;
}
