use Rattle.std.proofs.Common.{drop, rules}
use Rattle.perc_base.specs.Profile.{key_length}
use Rattle.perc_keydist.proofs.IssuingLaws.{pair_drawn}
use Rattle.perc_keydist.proofs.issuing.draw_pair.Goals as goal

pub returns-clause-told : goal.returns-clause-told
returns-clause-told g c = λ rs known.
    let n = key_length c.args.profile in
    let k = c.in_ok-key.ensures.told rs (search (rules, known)) in
    let s = c.in_ok-salt.ensures.told (drop n rs) (search (rules, k.1)) in
    (pair_drawn n c.key_len.result rs c.in_ok-key.key c.in_ok-salt.salt c.pair_of.result c.pair_of.ensures c.key_len.ensures k.0 s.0, search (rules, s.1))
