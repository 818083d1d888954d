use Rattle.std.proofs.Common.{◌≡◌, ℕ, ◌+◌, ◌≤◌, length, Ok, sym, ap, ◌∙◌, arith}
use Rattle.perc_srtp.specs.Streams.{tx_index}
use Rattle.perc_ohb.specs.Rewriting.{block_after, rewrite_of}
use Rattle.perc_double.specs.Double.{as_relayed, double, opened, relayed, relayed_length}
use Rattle.perc_double.proofs.Answering.{front_sealed, next_taken, relaying_by_index, told_relayed, sealing_by_index}
use Rattle.perc_double.proofs.RelayLaws.{IsHeader-relayed, restored_relayed}
use Rattle.perc_double.proofs.relaying.relay.Goals as goal

pub returns-in_default-clause-reads : goal.returns-in_default-clause-reads
returns-in_default-clause-reads c = λ h octets o is. IsHeader-relayed h (rewrite_of c.args.change.now) is.reads.header c.requires.change

pub returns-in_default-clause-restored : goal.returns-in_default-clause-restored
returns-in_default-clause-restored c = λ h octets o is. restored_relayed h o (rewrite_of c.args.change.now)

pub seal-requires-clause-reads : goal.seal-requires-clause-reads
seal-requires-clause-reads c =
    let was = c.requires.reads in
    let made = c.in-Some.ensures was.0 was.1 was.2 was.3 in
    (relayed was.0 (rewrite_of c.args.change.now), opened was.1 (block_after was.0 was.2 (rewrite_of c.args.change.now)), made.2, was.4)

pub returns-in-Ok-clause-answer : goal.returns-in-Ok-clause-answer
returns-in-Ok-clause-answer c = λ before h octets o stands is.
    let change = rewrite_of c.args.change.now in
    let n : ℕ = c.in-Some.len in
    let made = c.in-Some.ensures h octets o is in
    let fits : n + 16 ≤ 1500 = made.0 in
    let len_is : n + 16 ≡ relayed_length h octets o change = made.1 in
    let by_index = sealing_by_index before (relayed h change).seq n (length c.write_relayed.new.out) (omega arith) in
    let told = rw by_index at (c.in-Ok.ensures.answer before (relayed h change) (opened octets (block_after h o change)) stands made.2) in
    let packet = λ (at : ℕ). double c.args.outer.now at (relayed h change) octets (block_after h o change) in
    rw (relaying_by_index before h octets o change (omega arith))
    (told_relayed (tx_index before (relayed h change).seq) told
    (λ at t.
    let sealed : c.in-Ok.len ≡ n + 16 = (let e = t.0 in cc) in
    let front = front_sealed (packet at) c.write_relayed.new.out c.seal.new.packet n (relayed_length h octets o change) (omega arith) (omega arith) (sym len_is) t.1 in
    (ap Ok (sealed ∙ len_is), front, t.2))
    (λ f g e t. absurd (let no = t.0 in cc)))

pub returns-in-Ok-clause-next : goal.returns-in-Ok-clause-next
returns-in-Ok-clause-next c = λ before h octets o stands is.
    let change = rewrite_of c.args.change.now in
    let made = c.in-Some.ensures h octets o is in
    let fits : c.in-Some.len + 16 ≤ 1500 = made.0 in
    let by_index = sealing_by_index before (relayed h change).seq c.in-Some.len (length c.write_relayed.new.out) (omega arith) in
    let told = rw by_index at (c.in-Ok.ensures.answer before (relayed h change) (opened octets (block_after h o change)) stands made.2) in
    next_taken before h change _ _ told (λ f t. let refused = t.0 in cc)

pub returns-in-Ok-clause-reads : goal.returns-in-Ok-clause-reads
returns-in-Ok-clause-reads c = λ h octets o is. IsHeader-relayed h (rewrite_of c.args.change.now) is.reads.header c.requires.change

pub returns-in-Ok-clause-restored : goal.returns-in-Ok-clause-restored
returns-in-Ok-clause-restored c = λ h octets o is. restored_relayed h o (rewrite_of c.args.change.now)

pub returns-in-Err-clause-answer : goal.returns-in-Err-clause-answer
returns-in-Err-clause-answer c = λ before h octets o stands is.
    let change = rewrite_of c.args.change.now in
    let n : ℕ = c.in-Some.len in
    let made = c.in-Some.ensures h octets o is in
    let fits : n + 16 ≤ 1500 = made.0 in
    let len_is : n + 16 ≡ relayed_length h octets o change = made.1 in
    let by_index = sealing_by_index before (relayed h change).seq n (length c.write_relayed.new.out) (omega arith) in
    let told = rw by_index at (c.in-Err.ensures.answer before (relayed h change) (opened octets (block_after h o change)) stands made.2) in
    rw (relaying_by_index before h octets o change (omega arith))
    (told_relayed (tx_index before (relayed h change).seq) told
    (λ at t. absurd (let no = t.0 in cc))
    (λ f g e t. (sym c.fault_of.ensures ∙ ap as_relayed t.0 ∙ e, t.2)))

pub returns-in-Err-clause-reads : goal.returns-in-Err-clause-reads
returns-in-Err-clause-reads c = λ h octets o is. IsHeader-relayed h (rewrite_of c.args.change.now) is.reads.header c.requires.change

pub returns-in-Err-clause-restored : goal.returns-in-Err-clause-restored
returns-in-Err-clause-restored c = λ h octets o is. restored_relayed h o (rewrite_of c.args.change.now)
