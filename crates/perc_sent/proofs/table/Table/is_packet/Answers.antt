use Rattle.std.proofs.Common.{◌∙◌, sym}
use Rattle.perc_sent.proofs.Packets.{no_packet, sealed_at}
use Rattle.perc_sent.proofs.table.Table.is_packet.Goals as goal

pub was_sealed-requires : goal.was_sealed-requires
was_sealed-requires c =
    let it =
    sealed_at c.args.self.now c.requires.table.0 c.args.number c.index-self-number.result c.in-Some.unsealed c.requires.table.1 c.requires.above c.requires.within
    c.index-self-number.is c.in-Some.is in
    (it.unsealed, it.opened_is)

pub returns-in-None : goal.returns-in-None
returns-in-None c s h is packet =
    no_packet c.args.self.now s c.args.number c.index-self-number.result h c.args.question.now.octets.now is c.requires.above c.requires.within
    c.index-self-number.is c.in-None.is

pub returns-in-Some : goal.returns-in-Some
returns-in-Some c s h is packet =
    let it =
    sealed_at c.args.self.now s c.args.number c.index-self-number.result c.in-Some.unsealed is c.requires.above c.requires.within c.index-self-number.is c.in-Some.is in
    c.was_sealed.ensures it.unsealed h it.opened_is packet ∙ sym (it.asked h c.args.question.now.octets.now)
