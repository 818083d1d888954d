use Rattle.std.proofs.Common.{arith}
use Rattle.perc_aes.proofs.Rounds.{key_of}
use Rattle.perc_aes.proofs.Words.{key_of_words}
use Rattle.perc_aes.proofs.AesKey.rounds.Goals as goal

pub returns-clause-value : goal.returns-clause-value
returns-clause-value c =
    rw (← c.self.view_is) (omega (arith, key_of_words c.self.inside.words c.self.inside.key_words c.self.invariant.size c.self.told))

pub returns-clause-key : goal.returns-clause-key
returns-clause-key c =
    rw (← c.self.view_is) (key_of c.self.inside.words c.self.inside.key_words c.self.invariant c.self.told)
