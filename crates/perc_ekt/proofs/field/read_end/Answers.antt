use Rattle.std.proofs.Common.{◌≡◌, ◌-◌, ◌≤◌, None, Some, length, refl, sym, ◌∙◌, ap, arith}
use Rattle.std.specs.List.{slice_get}
use Rattle.perc_ekt.specs.Field.{last_octet, spelling}
use Rattle.perc_ekt.specs.Reading.{length_at}
use Rattle.perc_ekt.proofs.Fields.{field_empty, field_long, field_short, field_type, field_wrong, last_empty, last_some, long_answer}
use Rattle.perc_ekt.proofs.field.read_end.Goals as goal

pub returns-in_default-clause-answer : goal.returns-in_default-clause-answer
returns-in_default-clause-answer c =
    let d = c.args.datagram.now in
    let none : slice_get d (length d - 1) ≡ None = sym c.last.ensures.value ∙ sym c.copied.ensures ∙ c.in_default.is in
    rw (field_empty d (last_empty d none)) refl

pub returns-then-kind-eq-UNAVAILABLE-clause-answer : goal.returns-then-kind-eq-UNAVAILABLE-clause-answer
returns-then-kind-eq-UNAVAILABLE-clause-answer c =
    let d = c.args.datagram.now in
    let some : slice_get d (length d - 1) ≡ Some c.in-Some.kind = sym c.last.ensures.value ∙ sym c.copied.ensures ∙ c.in-Some.is in
    let last = last_some d c.in-Some.kind some in
    rw (field_type d last.1 (last.0 ∙ c.if-kind-eq-UNAVAILABLE.true)) refl

pub returns-then-kind-eq-SHORT-clause-answer : goal.returns-then-kind-eq-SHORT-clause-answer
unfolding spelling
returns-then-kind-eq-SHORT-clause-answer c =
    let d = c.args.datagram.now in
    let some : slice_get d (length d - 1) ≡ Some c.in-Some.kind = sym c.last.ensures.value ∙ sym c.copied.ensures ∙ c.in-Some.is in
    let last = last_some d c.in-Some.kind some in
    rw (field_short d last.1 (last.0 ∙ c.if-kind-eq-SHORT.true)) refl

pub returns-in-Some-long_length-clause-answer : goal.returns-in-Some-long_length-clause-answer
returns-in-Some-long_length-clause-answer c =
    let d = c.args.datagram.now in
    let kind = c.in-Some.kind in
    let n = c.in-Some-long_length.len in
    let some : slice_get d (length d - 1) ≡ Some kind = sym c.last.ensures.value ∙ sym c.copied.ensures ∙ c.in-Some.is in
    let last = last_some d kind some in
    let long : 2 ≤ last_octet d = omega (arith, last.0) in
    let found : length_at d kind ≡ Some n = sym c.in-Some-long_length.ensures in
    rw (field_long d n last.1 long (ap (length_at d) last.0 ∙ found)) (long_answer d kind n c.long_field.result last.0 c.long_field.ensures found)

pub returns-in-None-clause-answer : goal.returns-in-None-clause-answer
returns-in-None-clause-answer c =
    let d = c.args.datagram.now in
    let kind = c.in-Some.kind in
    let some : slice_get d (length d - 1) ≡ Some kind = sym c.last.ensures.value ∙ sym c.copied.ensures ∙ c.in-Some.is in
    let last = last_some d kind some in
    let long : 2 ≤ last_octet d = omega (arith, last.0) in
    rw (field_wrong d last.1 long (ap (length_at d) last.0 ∙ sym c.in-None.ensures)) refl
