use Rattle.std.proofs.Common.{◌≡◌, ap}
use Rattle.perc_rtp.specs.Header.{head_of}
use Rattle.perc_rtp.specs.declared.head.RtpHead.{RtpHead}
use Rattle.perc_double.specs.Double.{opened}
use Rattle.perc_distributor.proofs.streams.ssrc_of.Goals as goal

pub returns : goal.returns
returns c = λ m.
    let told = c.read.ensures.only m.header (opened m.inner m.block) m.is.packet.reads in
    let was = c.unwrap.ensures in
    let same : c.unwrap.result ≡ head_of m.header = cc in
    ap (λ (t : RtpHead). t.ssrc) same
