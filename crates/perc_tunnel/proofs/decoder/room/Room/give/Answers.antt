use Rattle.std.proofs.Common.{arith}
use Rattle.std.proofs.lemmas.List.Edits.{length-between}
use Rattle.perc_tunnel.proofs.Ranges.{range-back}
use Rattle.perc_tunnel.proofs.decoder.room.Room.give.Goals as goal

pub returns-clause-held : goal.returns-clause-held
returns-clause-held c =
    let room = c.args.self.now in
    let size = length-between room.octets.items room.start room.end (omega (arith, room.octets.ok.0, room.full, room.within)) in
    range-back room.octets.items room.start room.end c.args.len (omega (arith, c.requires, size, room.ordered))
