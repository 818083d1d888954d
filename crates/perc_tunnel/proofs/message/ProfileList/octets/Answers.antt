use Rattle.std.proofs.Common.{length, ap, sym, ◌∙◌, arith}
use Rattle.perc_tunnel.proofs.Octets.{numbers-length, numbers_spelled, numbers_fit}
use Rattle.perc_tunnel.proofs.message.ProfileList.octets.Goals as goal

pub returns-clause-value : goal.returns-clause-value
returns-clause-value c =
    let list = c.args.self.now in
    c.known.ensures.same ∙ sym (numbers_spelled list.octets.now list.whole c.known.ensures.octets)

pub returns-clause-numbers : goal.returns-clause-numbers
returns-clause-numbers c = numbers_fit c.args.self.now.octets.now c.known.ensures.octets

pub returns-clause-length : goal.returns-clause-length
returns-clause-length c =
    let list = c.args.self.now in
    omega (arith, numbers-length list.octets.now list.whole, ap length c.known.ensures.same)
