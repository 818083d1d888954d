use Rattle.std.proofs.Common.{◌≡◌, ℕ, ◌+◌, ◌<◌, ◌≤◌, get_or, length}
use Rattle.perc_keywrap.proofs.padding.move_down.Given as goal

abbrev pub invariant-loop-k : goal.invariant-loop-k
invariant-loop-k l = record {
  size : length l.octets ≡ length l.fn.octets;
  done : (j : ℕ) → j < l.k → get_or l.octets j 0 ≡ get_or l.fn.octets (j + 8) 0;
  left : (j : ℕ) → l.k ≤ j → get_or l.octets j 0 ≡ get_or l.fn.octets j 0;
}
