use Rattle.std.proofs.Common.{None}
use Rattle.perc_srtp.specs.Streams.{rtcp_opened}
use Rattle.perc_outer.specs.Datagram.{reached, streams_after}
use Rattle.perc_distributor.specs.Hearing.{control_of, indices_after, media_of}
use Rattle.perc_distributor.proofs.HearingLaws.{answer_plain}
use Rattle.perc_distributor.proofs.origin.Origin.take.Goals as goal

pub invariant_of-self : goal.invariant_of-self
invariant_of-self c =
    let i = c.self.invariant in (
      record i.0 { rtcp = indices_after i.0.rtcp (rtcp_opened c.srtcp.result.now i.0.rtcp c.args.datagram.now) },
      record { streams = i.1.streams; rtcp = c.take_control.ensures.indices i.0.rtcp i.1.rtcp },
    )

pub returns-then-rtcp-clause-plain : goal.returns-then-rtcp-clause-plain
returns-then-rtcp-clause-plain c =
    let i = c.self.invariant in
    answer_plain (control_of c.args.entry.now (rtcp_opened c.srtcp.result.now i.0.rtcp c.args.datagram.now)) c.take_control.result c.take_control.new.out
    (c.take_control.ensures.answer i.0.rtcp i.1.rtcp)

pub invariant_of-self-2 : goal.invariant_of-self-2
invariant_of-self-2 c =
    let i = c.self.invariant in (
      record i.0 { streams = streams_after i.0.streams (reached c.srtp.result.now None i.0.streams c.args.datagram.now) },
      record { streams = c.take_media.ensures.streams i.0.streams i.1.streams; rtcp = i.1.rtcp },
    )

pub returns-clause-plain : goal.returns-clause-plain
returns-clause-plain c =
    let i = c.self.invariant in
    answer_plain (media_of c.args.entry.now (reached c.srtp.result.now None i.0.streams c.args.datagram.now)) c.take_media.result c.take_media.new.out
    (c.take_media.ensures.answer i.0.streams i.1.streams)
