use Rattle.std.proofs.Common.{sym, ap, ◌∙◌, refl, take}
use Rattle.perc_rtp.specs.declared.head.RtpHead.{RtpHead}
use Rattle.perc_double.proofs.CallerLaws.{reads_opened}
use Rattle.perc_format_tests.proofs.double.relay_next.Goals as goal

pub relayed_len-told-requires-clause-reads : goal.relayed_len-told-requires-clause-reads
relayed_len-told-requires-clause-reads c =
    let read = c.in-Ok.ensures.ok in
    let ends = c.in-Ok-read_end.ensures.ok in
    let o = c.in-Ok-read_end.field-0.0 in (
      read.0,
      ends.0,
      o,
      reads_opened read.0 read.1 ends.0 (take c.args.len c.args.packet.now) _ o c.in-Ok.head.len
          (record { packet_is = read.2; len = ap (λ (r : RtpHead). r.len) read.3; part = refl; ends = ends.1 }),
    )

pub relay-result-requires-clause-reads : goal.relay-result-requires-clause-reads
relay-result-requires-clause-reads c =
    let read = c.in-Ok.ensures.ok in
    let ends = c.in-Ok-read_end.ensures.ok in
    let o = c.in-Ok-read_end.field-0.0 in (
      read.0,
      ends.0,
      o,
      reads_opened read.0 read.1 ends.0 (take c.args.len c.args.packet.now) _ o c.in-Ok.head.len
          (record { packet_is = read.2; len = ap (λ (r : RtpHead). r.len) read.3; part = refl; ends = ends.1 }),
      sym (ap (λ (r : RtpHead). r.ssrc) read.3) ∙ c.if-head-ssrc.false ∙ c.ssrc.ensures,
    )
