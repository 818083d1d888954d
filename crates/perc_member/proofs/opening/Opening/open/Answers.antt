use Rattle.std.proofs.Common.{◌≡◌, ℕ, ◌+◌, ◌-◌, ◌<◌, ◌≤◌, List, length, take, drop, get_or, refl, sym, ap, ◌∙◌, arith}
use Rattle.std.proofs.lemmas.List.{length-take, take_at}
use Rattle.perc_double.specs.Double.{nothing_kept, opened}
use Rattle.perc_octets.specs.Octets.{AreOctets}
use Rattle.perc_outgoing.specs.Sending.{sent_header, sent_inner}
use Rattle.perc_member.proofs.Opened.{field_stands, field_told, field_within, has_tag, index_below, opened_packet, opens_to, packet_stands, read_at, sealed_behind}
use Rattle.perc_member.proofs.opening.Opening.open.Goals as goal

pub unwrap-field-requires : goal.unwrap-field-requires
unwrap-field-requires c =
    let is = c.requires.next in
    let octets : AreOctets c.args.datagram.now = λ i. omega (arith, c.type_inv.datagram i) in
    let told = field_told c.args.self.now is.0 is.1 c.args.datagram.now c.read_end.result octets is.2 c.read_end.ensures.answer in
    rw told.1 refl

pub unseal_at-requires-clause-few : goal.unseal_at-requires-clause-few
unseal_at-requires-clause-few c =
    let size = length-take (length c.args.datagram.now - c.unwrap-field.result.1) c.args.datagram.now in
    omega (arith, ap length (c.deref_mut.ensures.value ∙ c.in_ok-packet.ensures.items), size, c.requires.few)

pub unseal_at-requires-clause-index : goal.unseal_at-requires-clause-index
unseal_at-requires-clause-index c = let is = c.requires.next in index_below c.args.self.now is.0 is.1 c.args.datagram.now is.2

pub unseal_at-requires-clause-reads : goal.unseal_at-requires-clause-reads
unseal_at-requires-clause-reads c =
    let is = c.requires.next in
    let octets : AreOctets c.args.datagram.now = λ i. omega (arith, c.type_inv.datagram i) in
    let read = read_at c.args.self.now is.0 is.1 c.args.datagram.now c.read_end.result c.unwrap-field.result octets is.2 c.read_end.ensures.answer c.unwrap-field.ensures in (
      sent_header is.0.endpoint.sending is.1,
      sealed_behind c.args.self.now is.0 is.1,
      packet_stands c.args.self.now is.0 is.1 c.args.datagram.now c.deref_mut.result.now _ is.2 read (c.deref_mut.ensures.value ∙ c.in_ok-packet.ensures.items),
    )

pub unseal_at-requires-clause-tag : goal.unseal_at-requires-clause-tag
unseal_at-requires-clause-tag c = λ g rest other.
    let is = c.requires.next in
    let octets : AreOctets c.args.datagram.now = λ i. omega (arith, c.type_inv.datagram i) in
    let read = read_at c.args.self.now is.0 is.1 c.args.datagram.now c.read_end.result c.unwrap-field.result octets is.2 c.read_end.ensures.answer c.unwrap-field.ensures in
    let h = sent_header is.0.endpoint.sending is.1 in
    let body = opened (sent_inner is.0.endpoint.sending is.1) nothing_kept in
    has_tag h g rest c.deref_mut.result.now c.args.self.now.keys c.args.self.now.next body
    (packet_stands c.args.self.now is.0 is.1 c.args.datagram.now c.deref_mut.result.now _ is.2 read (c.deref_mut.ensures.value ∙ c.in_ok-packet.ensures.items)) other

pub unwrap-len-requires : goal.unwrap-len-requires
unwrap-len-requires c =
    let is = c.requires.next in
    let octets : AreOctets c.args.datagram.now = λ i. omega (arith, c.type_inv.datagram i) in
    let read = read_at c.args.self.now is.0 is.1 c.args.datagram.now c.read_end.result c.unwrap-field.result octets is.2 c.read_end.ensures.answer c.unwrap-field.ensures in
    let h = sent_header is.0.endpoint.sending is.1 in
    let body = opened (sent_inner is.0.endpoint.sending is.1) nothing_kept in
    let stands = packet_stands c.args.self.now is.0 is.1 c.args.datagram.now c.deref_mut.result.now _ is.2 read (c.deref_mut.ensures.value ∙ c.in_ok-packet.ensures.items) in
    let opens = opens_to h c.args.self.now.keys c.args.self.now.next body c.deref_mut.result.now c.unseal_at.new.packet c.unseal_at.result
    (c.unseal_at.ensures.answer h (sealed_behind c.args.self.now is.0 is.1) stands) in
    rw opens.0 refl

pub overflow_add-self : goal.overflow_add-self
overflow_add-self c = let is = c.requires.next in omega (arith, index_below c.args.self.now is.0 is.1 c.args.datagram.now is.2)

pub returns-clause-unsealed : goal.returns-clause-unsealed
returns-clause-unsealed c = λ m content o.
    let octets : AreOctets c.args.datagram.now = λ i. omega (arith, c.type_inv.datagram i) in
    let read = read_at c.args.self.now m content c.args.datagram.now c.read_end.result c.unwrap-field.result octets o c.read_end.ensures.answer c.unwrap-field.ensures in
    let h = sent_header m.endpoint.sending content in
    let inner = sent_inner m.endpoint.sending content in
    let stands = packet_stands c.args.self.now m content c.args.datagram.now c.deref_mut.result.now _ o read (c.deref_mut.ensures.value ∙ c.in_ok-packet.ensures.items) in
    let opens = opens_to h c.args.self.now.keys c.args.self.now.next (opened inner nothing_kept) c.deref_mut.result.now c.unseal_at.new.packet c.unseal_at.result
    (c.unseal_at.ensures.answer h (sealed_behind c.args.self.now m content) stands) in
    let slice = c.unseal_at.new.packet in
    let size : length slice ≡ c.in_ok-packet.packet.len = omega arith in
    let back = take_at slice (drop (length slice) c.in_ok-packet.packet.items) c.in_ok-packet.packet.len size in
    let whole = length-take (length c.args.datagram.now - c.unwrap-field.result.1) c.args.datagram.now in
    let kept = length-take c.unwrap-len.result c.in_ok-packet.packet.items in
    record {
      few = omega (arith, ap length c.truncate.ensures.items, kept, size, ap length (c.deref_mut.ensures.value ∙ c.in_ok-packet.ensures.items), whole, c.requires.few);
      packet = opened_packet h inner c.truncate.new.self.items c.unseal_at.new.packet c.unseal_at.result c.unwrap-len.result o.header opens c.unwrap-len.ensures (c.truncate.ensures.items ∙ ap (take c.unwrap-len.result) back);
      field = field_stands m content c.args.datagram.now _ read;
      within = field_within m content c.args.datagram.now _ read;
    }
