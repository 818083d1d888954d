use Rattle.std.proofs.Common.{◌≡◌, take}
use Rattle.perc_word.specs.Word.{spelled_octets}
use Rattle.perc_word.proofs.octets.decode.Given as goal

-- the octets so far
abbrev pub invariant-loop-i : goal.invariant-loop-i
invariant-loop-i l = take l.i l.out ≡ take l.i (spelled_octets l.digits)
