use Rattle.std.proofs.Common.{◌-◌, drop, length, arith}
use Rattle.std.proofs.lemmas.List.{length-drop, length-take}
use Rattle.perc_keydist.proofs.Stopping.{part_short, takes_some}
use Rattle.perc_keydist.proofs.distributor.feed_front.Goals as goal

pub returns-clause-fewer : goal.returns-clause-fewer
returns-clause-fewer c = λ some.
    let octets = c.args.octets.now in
    let n = c.feed-taken.result in
    let takes = takes_some c.args.decoder.now (length octets) c.requires.ready (part_short c.args.decoder.now.held c.requires.part) some c.requires.few in
    omega (arith, c.feed-taken.ensures.count, takes, length-take (length octets - n) (drop n octets), length-drop n octets)
