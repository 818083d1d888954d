use Rattle.std.proofs.Common.{◌≡◌, ◌<◌, ◌≤◌, List, length, take, Some, Option, IsTrue, slice_get, sym, ap, subst, ◌∙◌, arith}
use Rattle.std.specs.List.{filter_map, list_any}
use Rattle.std.specs.Str.{bytes_eq}
use Rattle.std.proofs.lemmas.Option.{slice_get_read}
use Rattle.perc_ohb.specs.Rewriting.{rewrite_of}
use Rattle.perc_distributor.specs.Kept.{sent_of}
use Rattle.perc_distributor.specs.declared.outputs.Output.{Output}
use Rattle.perc_member.specs.Each.{MirrorsDatagram}
use Rattle.perc_member.specs.declared.datagram.Datagram as code_datagram
use Rattle.perc_run.specs.Forwarding.{packet_in, unsealed_of}
use Rattle.perc_run.specs.State.{Datagram}
use Rattle.perc_forward_line.specs.Telling.{to_of}
use Rattle.perc_forward_line.proofs.Sending.{few_octets, known_at, packet_at, plain_at, sealed_at}
use Rattle.perc_forward_line.proofs.Reporting.{dropped_told, sealed_told}
use Rattle.perc_forward_line.proofs.outputs.Telling.output.Goals as goal

pub name_of-name-requires : goal.name_of-name-requires
name_of-name-requires c =
    let h = c.requires.telling in
    subst (λ (o : Output). IsTrue (list_any (λ m. bytes_eq (to_of (sent_of o)) m.association) c.args.self.now.members.now)) c.in-Sealed.is
    (known_at c.args.self.now h.members h.taken h.sent c.args.output.now c.requires.there.0 h.is c.requires.there.1)

pub unsealed-requires-clause-few : goal.unsealed-requires-clause-few
unsealed-requires-clause-few c =
    few_octets c.args.output.now c.in-Sealed.place c.in-Sealed.to c.in-Sealed.octets c.in-Sealed.len c.in-Sealed.is c.requires.whole

pub unsealed-requires-clause-packet : goal.unsealed-requires-clause-packet
unsealed-requires-clause-packet c =
    let h = c.requires.telling in
    let batch = c.args.self.now.distributor.now.batch in
    let at : slice_get batch.items c.args.place ≡ Some c.index-packet.result.now = slice_get_read batch.items batch.len c.args.place c.index-packet.result.now batch.ok.0 c.requires.place c.index-packet.ensures in
    let p = packet_at h.taken batch.items c.args.place c.index-packet.result.now h.is.takings_are.batch at in (
      p.packet,
      p.is,
      sealed_at c.args.self.now h.members h.taken h.sent c.args.output.now c.requires.there.0 c.args.place c.in-Sealed.place c.in-Sealed.to c.in-Sealed.octets c.in-Sealed.len p.packet h.is c.requires.there.1 c.in-Sealed.is
          c.requires.of_place p.there,
    )

pub name_of-requires : goal.name_of-requires
name_of-requires c =
    let h = c.requires.telling in
    subst (λ (o : Output). IsTrue (list_any (λ m. bytes_eq (to_of (sent_of o)) m.association) c.args.self.now.members.now)) c.in-Dropped.is
    (known_at c.args.self.now h.members h.taken h.sent c.args.output.now c.requires.there.0 h.is c.requires.there.1)

pub returns-in_ok-from_slice-in-Sealed : goal.returns-in_ok-from_slice-in-Sealed
returns-in_ok-from_slice-in-Sealed c = λ members taken sent packet made is there.
    let change = rewrite_of c.args.self.now.change.now in
    let octets = take c.in-Sealed.len c.in-Sealed.octets in
    let batch = c.args.self.now.distributor.now.batch in
    let at : slice_get batch.items c.args.place ≡ Some c.index-packet.result.now = slice_get_read batch.items batch.len c.args.place c.index-packet.result.now batch.ok.0 c.requires.place c.index-packet.ensures in
    let plain = plain_at batch.items (filter_map packet_in taken) c.args.place c.index-packet.result.now packet is.takings_are.batch at there in
    let sealed = sealed_at c.args.self.now members taken sent c.args.output.now c.requires.there.0 c.args.place c.in-Sealed.place c.in-Sealed.to c.in-Sealed.octets c.in-Sealed.len packet is c.requires.there.1 c.in-Sealed.is
    c.requires.of_place there in
    let d : Datagram = record { octets = octets; unsealed = unsealed_of change packet } in
    let few : length octets ≤ 1500 = few_octets c.args.output.now c.in-Sealed.place c.in-Sealed.to c.in-Sealed.octets c.in-Sealed.len c.in-Sealed.is c.requires.whole in
    let made_of : code_datagram.Datagram = record { octets = c.in_ok-from_slice-in-Sealed.field-0; unsealed = c.in_ok-unsealed-in-Sealed.unsealed } in
    let mirrors : MirrorsDatagram made_of d = record { octets = c.in_ok-from_slice-in-Sealed.ensures.items; few = few; unsealed = c.in_ok-unsealed-in-Sealed.ensures packet plain sealed } in
    sealed_told members change c.args.number packet made c.args.output.now c.in-Sealed.place c.in-Sealed.to c.in-Sealed.octets c.in-Sealed.len c.name_of-name.result c.args.datagrams.now.items
    c.wire_down.new.datagrams.items c.wire_down.result c.args.text.now.items c.wire_down.new.text.items c.in-Sealed.is (c.name_of-name.ensures members is.members_are) (c.wire_down.ensures d made mirrors)

pub returns-in-Dropped : goal.returns-in-Dropped
returns-in-Dropped c = λ members taken sent packet made is there.
    dropped_told members (rewrite_of c.args.self.now.change.now) c.args.number packet made c.args.output.now c.in-Dropped.place c.in-Dropped.to c.in-Dropped.fault c.name_of.result c.args.datagrams.now.items
    c.args.datagrams.now.items c.dropped.result c.args.text.now.items c.dropped.new.text.items c.in-Dropped.is (c.name_of.ensures members is.members_are) (c.dropped.ensures made c.args.datagrams.now.items)
