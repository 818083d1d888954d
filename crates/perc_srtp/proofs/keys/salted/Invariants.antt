use Rattle.std.proofs.Common.{◌≡◌, ℕ, ◌<◌, get_or, length}
use Rattle.std.specs.Prelude.{bit_xor}
use Rattle.perc_srtp.proofs.keys.salted.Given as goal

abbrev pub invariant-loop-k : goal.invariant-loop-k
invariant-loop-k l = record {
  size : length l.sum ≡ 12;
  done : (j : ℕ) → j < l.k → get_or l.sum j 0 ≡ bit_xor (get_or l.salt j 0) (get_or l.octets j 0);
}
