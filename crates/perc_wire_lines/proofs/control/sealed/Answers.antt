use Rattle.std.proofs.Common.{Err, List, ℕ, subst}
use Rattle.perc_endpoint.specs.Endpoint.{rtcp_sent}
use Rattle.perc_endpoint.specs.Kept.{IsRtcpDeparture}
use Rattle.perc_wire_lines.proofs.Controls.{never_refused}
use Rattle.perc_wire_lines.proofs.control.sealed.Goals as goal

pub unreachable-requires : goal.unreachable-requires
unreachable-requires c =
    let may = c.requires.index in
    let fault = c.in_default.field-0 in
    let out = c.send_rtcp.new.out in
    let departs =
    subst (λ (plain : List ℕ). IsRtcpDeparture (rtcp_sent may.0 plain).0 (Err fault) out) c.write.ensures (c.in_default.ensures.answer may.0 may.1) in
    never_refused may.0 c.args.plain.now fault out c.requires.rtcp may.2 departs
