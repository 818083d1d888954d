use Rattle.std.proofs.Common.{◌∙◌, rules}
use Rattle.perc_keydist.proofs.Rolling.{front_on, renewals_step, renewed}
use Rattle.perc_keydist.proofs.distributor.append_renewals.Goals as goal

pub loop-association-preserved : goal.loop-association-preserved
loop-association-preserved g c =
    let i = c.loop-association.invariant in
    record {
      told = λ a told. renewed c.loop-association.out.items c.append_renewal.new.out.items _ _ _ _ (c.in_ok-append_renewal.ensures.told a (i.kept ∙ told))
          (renewals_step a c.args.granted.now c.args.members.now c.loop-association.association-index _ c.loop-association-test.true) (i.told a told);
      front = front_on c.args.out.now.items c.loop-association.out.items c.append_renewal.new.out.items i.front c.in_ok-append_renewal.ensures.front;
      kept = search rules;
      hand = search rules;
    }
