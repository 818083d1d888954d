-- An index was left, so the next one is in range.
use Rattle.std.proofs.Common.{◌≡◌, ◌^◌, ◌<◌, ◌≤◌, length, rules, sym, arith}
use Rattle.perc_outgoing.specs.Sending.{after_rtcp}
use Rattle.perc_outgoing.specs.Kept.{Kept}
use Rattle.perc_outgoing.proofs.Reports.{plain_few}
use Rattle.perc_outgoing.proofs.Standing.{rtcp_stands}
use Rattle.perc_outgoing.proofs.sending.Outgoing.send_rtcp.Goals as goal

pub invariant_of-self-2 : goal.invariant_of-self-2
invariant_of-self-2 c =
    let i = c.self.inside in
    let kept : Kept = record { media = i.media; control = i.control; granted = i.granted; sending = i.sender.value; outer = i.outer; rtcp = i.rtcp } in
    let is = c.self.invariant.stands in
    let few : length c.args.plain.now ≤ 1200 = plain_few c.args.plain.now (sym c.in_default.ensures) in
    let spent : i.rtcp ≡ 2 ^ 31 → ⊥ = λ e. let bad = c.in-Ok.ensures.spent.1 (search rules, e) in cc in
    let most = is.1.sound.rtcp in
    let same = is.1.rtcp in
    let left : i.rtcp < 2 ^ 31 = omega arith in
    record { right = c.self.invariant.right; stands = (after_rtcp is.0, rtcp_stands kept is.0 c.seal.new.self is.1 c.in-Ok.ensures.next left) }
