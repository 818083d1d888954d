use Rattle.std.proofs.Common.{◌≡◌, ℕ, ◌+◌, ◌-◌, ◌≤◌, List, ◌∷◌, ◌++◌, length, take, refl, ap, ◌∙◌, arith}
use borrow.Rule.Slice.PartMut.{mid_of}
use Rattle.perc_ekt.specs.Field.{spelling}
use Rattle.perc_srtp.specs.Streams.{tx_index}
use Rattle.perc_ohb.specs.Rewriting.{block_after, rewrite_of}
use Rattle.perc_window.specs.Replay.{StandsFor}
use Rattle.perc_double.specs.Double.{double, relayed, relayed_length}
use Rattle.perc_distributor.specs.declared.plain.Plain.{Plain}
use Rattle.perc_distributor.specs.Kept.{MediaOf}
use Rattle.perc_distributor.proofs.SealingLaws.{field_at, field_length, no_room, refused_so, relayed_with_room, with_field, with_room}
use Rattle.perc_distributor.proofs.streams.seal_in.Goals as goal

pub returns-then-len-plain-clause-sealed : goal.returns-then-len-plain-clause-sealed
returns-then-len-plain-clause-sealed c = λ before from h inner o field stands is.
    let len = field_length c.args.plain.now from h inner o field is (omega arith) in
    let told : c.relayed_len-len.result ≡ relayed_length h inner o (rewrite_of c.args.change.now) = c.relayed_len-len.ensures h inner o is.packet in
    rw (no_room before h inner o field (rewrite_of c.args.change.now) (omega arith)) refl

pub put_behind-requires : goal.put_behind-requires
put_behind-requires c =
    let m : MediaOf c.args.plain.now = c.requires.media.0 in
    let p : Plain = c.args.plain.now in
    let len = field_length p m.from m.header m.inner m.block m.field m.is (omega arith) in
    let field : length (mid_of (p.len - p.field) (p.len - (p.len - p.field)) p.octets) ≡ length (spelling m.field)
    = ap (λ (xs : List ℕ). length xs) (field_at p m.from m.header m.inner m.block m.field m.is) in
    let within = m.is.field_within in
    let few = m.is.within in
    omega arith

pub returns-in-Ok-clause-sealed : goal.returns-in-Ok-clause-sealed
returns-in-Ok-clause-sealed c = λ before from h inner o field stands is.
    let p = c.args.plain.now in
    let change = (rewrite_of c.args.change.now) in
    let len = field_length p from h inner o field is (omega arith) in
    let told : c.relayed_len-len.result ≡ relayed_length h inner o change = c.relayed_len-len.ensures h inner o is.packet in
    let behind = field_at p from h inner o field is in
    let within = is.field_within in
    let few = is.within in
    let fits : relayed_length h inner o change + length (spelling field) ≤ 1500 = omega arith in
    let all = rw (relayed_with_room before h inner o change (omega arith)) at (c.relay.ensures.answer before h inner o stands is.packet) in
    rw (with_room before h inner o field change fits)
    (with_field (tx_index before (relayed h change).seq) c.relay.result (relayed_length h inner o change) c.relayed_len-len.result c.in-Ok.field-0 c.put_behind.result c.relay.new.packet (spelling field)
    c.put_behind.new.out (λ at. double c.args.keys.now at (relayed h change) inner (block_after h o change)) (λ at. StandsFor c.relay.new.tx.window (at ∷ before))
    (c.relay.new.tx ≡ c.args.stream.now) all c.in-Ok.is told (c.put_behind.ensures.written ∙ ap (λ (xs : List ℕ). take c.relayed_len-len.result c.relay.new.packet ++ xs) behind))

pub returns-in-Err-clause-sealed : goal.returns-in-Err-clause-sealed
returns-in-Err-clause-sealed c = λ before from h inner o field stands is.
    let p = c.args.plain.now in
    let change = (rewrite_of c.args.change.now) in
    let len = field_length p from h inner o field is (omega arith) in
    let told : c.relayed_len-len.result ≡ relayed_length h inner o change = c.relayed_len-len.ensures h inner o is.packet in
    let within = is.field_within in
    let few = is.within in
    let fits : relayed_length h inner o change + length (spelling field) ≤ 1500 = omega arith in
    let all = rw (relayed_with_room before h inner o change (omega arith)) at (c.relay.ensures.answer before h inner o stands is.packet) in
    rw (with_room before h inner o field change fits, c.fault_of.ensures)
    (refused_so (tx_index before (relayed h change).seq) c.relay.result (relayed_length h inner o change) c.relay.new.packet c.relay.new.packet
    (λ at. double c.args.keys.now at (relayed h change) inner (block_after h o change)) (λ at. double c.args.keys.now at (relayed h change) inner (block_after h o change) ++ spelling field)
    (λ at. StandsFor c.relay.new.tx.window (at ∷ before)) (λ at. StandsFor c.relay.new.tx.window (at ∷ before)) (c.relay.new.tx ≡ c.args.stream.now) c.in-Err.fault all c.in-Err.is)

pub returns-in-Ok-clause-within : goal.returns-in-Ok-clause-within
returns-in-Ok-clause-within c =
    let m : MediaOf c.args.plain.now = c.requires.media.0 in
    let p : Plain = c.args.plain.now in
    let len = field_length p m.from m.header m.inner m.block m.field m.is (omega arith) in
    let field : length (mid_of (p.len - p.field) (p.len - (p.len - p.field)) p.octets) ≡ length (spelling m.field)
    = ap (λ (xs : List ℕ). length xs) (field_at p m.from m.header m.inner m.block m.field m.is) in
    let within = m.is.field_within in
    let few = m.is.within in
    omega arith
