-- What is summed so far is the sum of the octets up to this one.
use Rattle.std.proofs.Common.{◌≡◌, ◌≤◌, take, length}
use Rattle.perc_app.specs.Made.{sum_of}
use Rattle.perc_app.proofs.made.sum.Given as goal

abbrev pub invariant-loop-octet : goal.invariant-loop-octet
invariant-loop-octet l = (l.sum ≡ sum_of (take l.octet-index l.octets)) × (l.octet-index ≤ length l.octets)
