use Rattle.std.proofs.Common.{refl}
use Rattle.perc_keydist.proofs.IssuingLaws.{key_filled}
use Rattle.perc_keydist.proofs.issuing.draw_key.Goals as goal

pub returns-clause-told : goal.returns-clause-told
returns-clause-told g c = λ rs known.
    key_filled c.args.profile c.key_len.result rs _ c.fill.new.into (g.R.Randoms.left c.args.randoms.now) (g.R.Randoms.left c.fill.new.randoms) c.key_len.ensures refl known
    c.in_ok-fill.ensures.octets
