use Rattle.std.proofs.Common.{◌≡◌, take}
use Rattle.perc_tunnel.specs.Told as told
use Rattle.perc_keydist.proofs.desk.numbers_of.Given as goal

abbrev pub invariant-loop-i : goal.invariant-loop-i
invariant-loop-i l = l.numbers.items ≡ take l.i (told.numbers_of l.profiles)
