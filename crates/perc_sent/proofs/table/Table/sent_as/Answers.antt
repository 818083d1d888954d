use Rattle.std.proofs.Common.{sym}
use Rattle.perc_sent.proofs.Rows.{sent_by_none, sent_with, sent_without}
use Rattle.perc_sent.proofs.table.Table.sent_as.Goals as goal

pub returns-in_err-member : goal.returns-in_err-member
returns-in_err-member c s is =
    rw c.from_residual.ensures (sent_by_none c.args.self.now s c.args.ssrc c.args.index is (sym c.in_err-member.ensures))

pub returns-in_err-datagram : goal.returns-in_err-datagram
returns-in_err-datagram c s is =
    rw c.from_residual-in_err-datagram.ensures (sent_without c.args.self.now s c.args.ssrc c.args.index c.in_ok-member.member.now is (sym c.in_ok-member.ensures) (sym c.in_err-datagram.ensures))

pub returns : goal.returns
returns c s is =
    sent_with c.args.self.now s c.args.ssrc c.args.index c.in_ok-datagram.datagram c.in_ok-member.member.now is (sym c.in_ok-member.ensures) (sym c.in_ok-datagram.ensures)
