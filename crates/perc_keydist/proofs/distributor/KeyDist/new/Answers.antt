use Rattle.std.proofs.Common.{ap}
use Rattle.perc_tunnel.specs.Decoding.{Decoding}
use Rattle.perc_keydist.proofs.Feeds.{nothing_part}
use Rattle.perc_keydist.proofs.distributor.KeyDist.new.Goals as goal

pub invariant_of-result : goal.invariant_of-result
invariant_of-result c = (ap (λ (d : Decoding). d.fault) c.in_ok-new.ensures, nothing_part c.in_ok-new.field-0.held (ap (λ (d : Decoding). d.held) c.in_ok-new.ensures))
