use Rattle.std.proofs.Common.{◌+◌, ◌*◌, ◌≤◌, ap, arith, ◌∙◌}
use Rattle.perc_aes.specs.Words.{octets_of}
use Rattle.perc_aes.proofs.Rounds.{round_key_fits, round_key_is}
use Rattle.perc_aes.proofs.AesKey.round_key.Goals as goal

pub four_words-requires : goal.four_words-requires
four_words-requires c =
    round_key_fits c.self.inside.words c.self.inside.key_words c.args.round c.self.invariant c.self.told (rw c.self.view_is c.requires)

pub overflow_mul-round : goal.overflow_mul-round
overflow_mul-round c =
    let fits : 4 * c.args.round + 4 ≤ 60 = round_key_fits c.self.inside.words c.self.inside.key_words c.args.round c.self.invariant c.self.told (rw c.self.view_is c.requires) in
    omega arith

pub returns : goal.returns
returns c =
    ap octets_of c.four_words.ensures
    ∙ rw (← c.self.view_is)
    (round_key_is c.self.inside.words c.self.inside.key_words c.args.round c.self.invariant c.self.told (rw c.self.view_is c.requires))
