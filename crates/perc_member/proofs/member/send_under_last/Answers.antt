use Rattle.std.proofs.Common.{arith}
use Rattle.perc_member.proofs.Sent.{last_set}
use Rattle.perc_member.proofs.member.send_under_last.Goals as goal

pub returns-in-Some : goal.returns-in-Some
returns-in-Some c =
    last_set c.args.index c.args.keys.now.len c.args.keys.now.items c.in-Some.key.now c.send.new.self (omega arith) c.in-Some.ensures.item.3.0 c.in-Some.ensures.value c.send.ensures
