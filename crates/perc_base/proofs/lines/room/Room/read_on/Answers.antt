use Rattle.std.proofs.Common.{◌≤◌, ◌+◌, length, arith}
use Rattle.perc_base.specs.Room.{held_in}
use Rattle.perc_base.proofs.Taken.{OnErr_always, held_kept, ReadsOn_failed, ReadsOn_taken}
use Rattle.perc_base.proofs.lines.room.Room.read_on.Goals as goal

pub returns-in_err-n-clause-reads : goal.returns-in_err-n-clause-reads
returns-in_err-n-clause-reads g c =
    let room = c.make_room.new.self in
    ReadsOn_failed (held_in c.args.self.now) room.octets.items c.read_behind.new.octets.items room.start room.end room.ended c.make_room.ensures.held c.in_err-n.ensures.front _ _ c.in_err-n.ensures.kept

pub returns-in_err-n-clause-kept : goal.returns-in_err-n-clause-kept
returns-in_err-n-clause-kept g c =
    let room = c.make_room.new.self in
    OnErr_always c.from_residual.result (held_kept (held_in c.args.self.now) room.octets.items c.read_behind.new.octets.items room.start room.end room.ended c.make_room.ensures.held c.in_err-n.ensures.front)

pub returns-clause-reads : goal.returns-clause-reads
returns-clause-reads g c =
    let room = c.make_room.new.self in
    let ys = c.read_behind.new.octets in
    let fits : room.end + c.in_ok-n.n ≤ length ys.items = omega (arith, ys.ok.0, c.in_ok-n.ensures.within) in
    ReadsOn_taken (held_in c.args.self.now) room.octets.items ys.items room.start room.end room.ended c.make_room.ensures.held c.in_ok-n.ensures.front c.in_ok-n.n _ _ c.requires room.ordered fits c.in_ok-n.ensures.reads c.in_ok-n.ensures.end
