use Rattle.std.proofs.Common.{◌<◌, ◌^◌, get_or, refl, arith}
use Rattle.std.proofs.lemmas.List.Elements.{All-from_get_or}
use Rattle.perc_rtp.proofs.Writing.{fours_more}
use Rattle.perc_rtp.proofs.media.write_csrcs.Goals as goal

pub loop-i-preserved : goal.loop-i-preserved
loop-i-preserved c =
    fours_more c.args.csrcs.now c.args.out.now _ _ c.loop-i.i (get_or c.args.csrcs.now c.loop-i.i 0) c.loop-i-test.true refl c.requires c.loop-i.invariant c.write_u32.ensures

pub returns-clause-fits : goal.returns-clause-fits
returns-clause-fits c = All-from_get_or (λ x. x < 2 ^ 32) c.args.csrcs.now 0 (λ i lt. omega (arith, c.type_inv.csrcs i))
