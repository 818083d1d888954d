use Rattle.std.proofs.Common.{◌≡◌, length, arith}
use Rattle.perc_ohb.specs.Rewriting.{rewrite_of}
use Rattle.perc_forward_line.proofs.Sending.{unsealed_mirrors}
use Rattle.perc_forward_line.proofs.outputs.Telling.unsealed.Goals as goal

pub returns : goal.returns
returns c = λ opened is sealed.
    let room : length c.args.packet.now.octets ≡ 1500 = omega arith in
    unsealed_mirrors c.args.packet.now (rewrite_of c.args.self.now.change.now) opened c.args.datagram.now c.in_ok-unsealed.unsealed c.if-packet.false room c.requires.few is sealed c.in_ok-unsealed.ensures.field c.in_ok-unsealed.ensures.packet
