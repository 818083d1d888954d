use Rattle.std.proofs.Common.{◌≡◌, ℕ, ◌<◌, ◌≤◌, get_or, length}
use Rattle.perc_keywrap.proofs.Steps.{sum_at}
use Rattle.perc_keywrap.proofs.registers.numbered.Given as goal

abbrev pub invariant-loop-k : goal.invariant-loop-k
invariant-loop-k l = record {
  size : length l.sum ≡ 16;
  done : (j : ℕ) → j < l.k → get_or l.sum j 0 ≡ sum_at l.fn.block l.number j;
  left : (j : ℕ) → l.k ≤ j → get_or l.sum j 0 ≡ get_or l.fn.block j 0;
}
