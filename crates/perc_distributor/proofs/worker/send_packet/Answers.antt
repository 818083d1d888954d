use Rattle.std.proofs.Common.{◌+◌, ◌≤◌, List, length, sym, subst, ◌∙◌, arith}
use Rattle.perc_ohb.specs.Rewriting.{rewrite_of}
use Rattle.perc_keyset.specs.declared.Entry.{Entry}
use Rattle.perc_distributor.specs.declared.outputs.Output.{Output}
use Rattle.perc_distributor.specs.Kept.{Kept}
use Rattle.perc_distributor.specs.Tables.{SendsPacket, names}
use Rattle.perc_distributor.proofs.TableLaws.{has_room}
use Rattle.perc_distributor.proofs.UnderWay.{PacketUnderWay, in_set_at, packet_begins, packet_kept, packet_sent, take_whole}
use Rattle.perc_distributor.proofs.worker.send_packet.Goals as goal
use Rattle.perc_distributor.proofs.worker.send_packet.Goals.{then-is_recipient, else-is_recipient}

pub loop-i-init : goal.loop-i-init
loop-i-init c =
    packet_begins c.args.table.now c.args.share.number c.args.share.of c.args.set.now c.args.place c.args.plain.now (rewrite_of c.args.change.now) (names c.args.only) c.args.out.now c.requires.only

pub send-requires-clause-room : goal.send-requires-clause-room
send-requires-clause-room c =
    let e : Entry = c.at-entry.result.now in
    let few : length c.args.set.now ≤ 64 = omega arith in
    has_room c.args.set.now e.serial c.loop-i.table c.loop-i.invariant.only_of few (in_set_at c.args.set.now c.loop-i.i e c.at-entry.ensures)

pub loop-i-preserved : goal.loop-i-preserved
loop-i-preserved c =
    let e : Entry = c.at-entry.result.now in
    elim c.if-is_recipient.branch [
      | then-is_recipient w ↦
          subst (λ (t : List Kept). PacketUnderWay c.args.table.now c.args.share.number c.args.share.of c.args.set.now (c.loop-i.i + 1) c.args.place c.args.plain.now (rewrite_of c.args.change.now) (names c.args.only)
          c.args.out.now c.if-is_recipient.out t) (sym w.table-is)
          (subst (λ (o : List Output). PacketUnderWay c.args.table.now c.args.share.number c.args.share.of c.args.set.now (c.loop-i.i + 1) c.args.place c.args.plain.now (rewrite_of c.args.change.now) (names c.args.only)
          c.args.out.now o w.send.new.self) (sym (w.out-is ∙ w.push.ensures))
          (packet_sent c.args.table.now c.args.share.number c.args.share.of c.args.set.now c.loop-i.i c.args.place c.args.plain.now (rewrite_of c.args.change.now) (names c.args.only) c.args.out.now c.loop-i.out
          c.loop-i.table w.send.new.self e w.send.result c.loop-i.invariant c.at-entry.ensures (sym c.is_recipient.ensures ∙ w.if-is_recipient.true) w.send.ensures.sent w.send.ensures.only))
      | else-is_recipient w ↦
          subst (λ (t : List Kept). PacketUnderWay c.args.table.now c.args.share.number c.args.share.of c.args.set.now (c.loop-i.i + 1) c.args.place c.args.plain.now (rewrite_of c.args.change.now) (names c.args.only)
          c.args.out.now c.if-is_recipient.out t) (sym w.table-is)
          (subst (λ (o : List Output). PacketUnderWay c.args.table.now c.args.share.number c.args.share.of c.args.set.now (c.loop-i.i + 1) c.args.place c.args.plain.now (rewrite_of c.args.change.now) (names c.args.only)
          c.args.out.now o c.loop-i.table) (sym w.out-is)
          (packet_kept c.args.table.now c.args.share.number c.args.share.of c.args.set.now c.loop-i.i c.args.place c.args.plain.now (rewrite_of c.args.change.now) (names c.args.only) c.args.out.now c.loop-i.out
          c.loop-i.table e c.loop-i.invariant c.at-entry.ensures (sym c.is_recipient.ensures ∙ w.if-is_recipient.false)))
    ]

pub returns-clause-sent : goal.returns-clause-sent
returns-clause-sent c =
    subst (λ (es : List Entry). SendsPacket c.args.table.now c.args.share.number c.args.share.of es c.args.place c.args.plain.now (rewrite_of c.args.change.now) (names c.args.only) c.args.out.now c.loop-i.out c.loop-i.table)
    (take_whole c.args.set.now c.loop-i.i (omega arith)) c.loop-i.invariant.sent
