use Rattle.perc_word.proofs.Lengths.{spelled_len}
use Rattle.perc_word.proofs.octets.Octets.len.Goals as goal

pub returns-in-Digits : goal.returns-in-Digits
returns-in-Digits c = spelled_len c.in-Digits.digits _ _ c.in-Digits.is c.self.invariant c.self.view_is
