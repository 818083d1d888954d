use Rattle.std.proofs.Common.{refl}
use Rattle.perc_keydist.proofs.IssuingLaws.{salt_filled}
use Rattle.perc_keydist.proofs.issuing.draw_salt.Goals as goal

pub returns-clause-told : goal.returns-clause-told
returns-clause-told g c = λ rs known.
    salt_filled rs _ c.fill.new.into (g.R.Randoms.left c.args.randoms.now) (g.R.Randoms.left c.fill.new.randoms) refl known c.in_ok-fill.ensures.octets
