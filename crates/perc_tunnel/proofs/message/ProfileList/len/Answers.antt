use Rattle.std.proofs.Common.{arith}
use Rattle.perc_tunnel.proofs.Octets.{numbers-length}
use Rattle.perc_tunnel.proofs.message.ProfileList.len.Goals as goal

pub returns : goal.returns
returns c =
    let list = c.args.self.now in
    omega (arith, numbers-length list.octets.now list.whole)
