use Rattle.std.proofs.Common.{◌≡◌, ℕ, ◌⊎◌, Some, true, false, sym, ap, subst, ◌∙◌, arith}
use Rattle.perc_ekt.specs.declared.record.EktKeyRecord.{EktKeyRecord}
use Rattle.perc_ekt.specs.Record.{IsRecord, has_lengths, record_of}
use Rattle.perc_octets.specs.Octets.{AreOctets}
use Rattle.perc_ekt.proofs.Records.{key-lengths, lengths_found, record_found, record_in, record_none}
use Rattle.perc_ekt.proofs.record.EktKeyRecord.read.Goals as goal

pub returns-then-has_lengths-clause-answer : goal.returns-then-has_lengths-clause-answer
returns-then-has_lengths-clause-answer c =
    let bytes = c.args.bytes.now in
    let len = c.key_len-len.result in
    let right : has_lengths len bytes ≡ true = sym c.has_lengths.ensures ∙ c.if-has_lengths.true in
    ap (λ (r : EktKeyRecord). Some r) c.record_in.ensures ∙ sym (record_found len bytes right) ∙ ap (λ (n : ℕ). record_of n bytes) c.key_len-len.ensures

pub returns-then-has_lengths-clause-right : goal.returns-then-has_lengths-clause-right
returns-then-has_lengths-clause-right c =
    let bytes = c.args.bytes.now in
    let len = c.key_len-len.result in
    let octets : AreOctets bytes = λ i. omega (arith, c.type_inv.bytes i) in
    let lengths : (len ≡ 16) ⊎ (len ≡ 32) = subst (λ (n : ℕ). (n ≡ 16) ⊎ (n ≡ 32)) (sym c.key_len-len.ensures) (key-lengths c.args.profile) in
    let right : has_lengths len bytes ≡ true = sym c.has_lengths.ensures ∙ c.if-has_lengths.true in
    let read = record_in bytes len octets (lengths_found len bytes lengths right) in
    (subst IsRecord (sym c.record_in.ensures) read.0, ap (λ (r : EktKeyRecord). r.len) c.record_in.ensures ∙ c.key_len-len.ensures)

pub returns-else-has_lengths-clause-answer : goal.returns-else-has_lengths-clause-answer
returns-else-has_lengths-clause-answer c =
    let bytes = c.args.bytes.now in
    let len = c.key_len-len.result in
    let wrong : has_lengths len bytes ≡ false = sym c.has_lengths.ensures ∙ c.if-has_lengths.false in
    sym (record_none len bytes wrong) ∙ ap (λ (n : ℕ). record_of n bytes) c.key_len-len.ensures
