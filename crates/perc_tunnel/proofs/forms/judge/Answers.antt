use Rattle.std.proofs.Common.{◌≡◌, ◌+◌, ◌<◌, ◌≤◌, length, sym, subst, ◌∙◌, arith}
use Rattle.std.proofs.lemmas.Bool.{eqb-true}
use Rattle.std.proofs.lemmas.Bool.Decides.{nat_tests}
use Rattle.perc_tunnel.specs.declared.forms.Standing.TheVariants.{Whole}
use Rattle.perc_octets.specs.Octets.{AreOctets}
use Rattle.perc_tunnel.specs.Forms.{IsStanding}
use Rattle.perc_tunnel.proofs.Judging.{refuted, number_read, Tests, judged_empty, judged_kind, judged_length, judged_body, judged_part, judged_whole}
use Rattle.perc_tunnel.proofs.forms.judge.Goals as goal

pub returns-then-is_empty : goal.returns-then-is_empty
returns-then-is_empty c =
    let none : length c.args.octets.now ≡ 0 = eqb-true _ _ (sym c.is_empty.ensures ∙ c.if-is_empty.true) in
    judged_empty c.args.octets.now none

pub returns-then-not-is_kind : goal.returns-then-not-is_kind
returns-then-not-is_kind c =
    let octets = c.args.octets.now in
    let some : 0 < length octets = grind (arith, nat_tests, c.is_empty.ensures, c.if-is_empty.false) in
    judged_kind octets some (refuted c.is_kind.result c.is_kind.ensures c.if-not-is_kind.true)

pub returns-in_default : goal.returns-in_default
returns-in_default c =
    let octets = c.args.octets.now in
    let n = c.read_u16-len.result in
    judged_length octets n c.if-octets-lt3.false (number_read octets n c.read_u16-len.ensures) (c.is_kind.ensures.0 c.if-not-is_kind.false) (sym c.form_of.ensures ∙ c.in_default.is)

pub returns-then-not-has_fixed : goal.returns-then-not-has_fixed
returns-then-not-has_fixed c =
    let octets = c.args.octets.now in
    let each : AreOctets octets = λ i. omega (arith, c.type_inv.octets i) in
    let n = c.read_u16-len.result in
    let t : Tests octets c.in-Some.form n = record {
      long = c.if-octets-lt3.false;
      each = each;
      number = number_read octets n c.read_u16-len.ensures;
      told = sym c.form_of.ensures ∙ c.in-Some.is;
    } in
    judged_body octets c.in-Some.form n t (c.is_kind.ensures.0 c.if-not-is_kind.false) (refuted c.has_fixed.result c.has_fixed.ensures c.if-not-has_fixed.true)

pub returns-then-octets-end : goal.returns-then-octets-end
returns-then-octets-end c =
    let octets = c.args.octets.now in
    let each : AreOctets octets = λ i. omega (arith, c.type_inv.octets i) in
    let n = c.read_u16-len.result in
    let t : Tests octets c.in-Some.form n = record {
      long = c.if-octets-lt3.false;
      each = each;
      number = number_read octets n c.read_u16-len.ensures;
      told = sym c.form_of.ensures ∙ c.in-Some.is;
    } in
    judged_part octets c.in-Some.form n t (c.has_fixed.ensures.0 c.if-not-has_fixed.false) (omega (arith, c.from-end.ensures))

pub returns-else-octets-end : goal.returns-else-octets-end
returns-else-octets-end c =
    let octets = c.args.octets.now in
    let each : AreOctets octets = λ i. omega (arith, c.type_inv.octets i) in
    let n = c.read_u16-len.result in
    let t : Tests octets c.in-Some.form n = record {
      long = c.if-octets-lt3.false;
      each = each;
      number = number_read octets n c.read_u16-len.ensures;
      told = sym c.form_of.ensures ∙ c.in-Some.is;
    } in
    let fits : 3 + n ≤ length octets = omega (arith, c.from-end.ensures) in
    let w = judged_whole octets c.in-Some.form n t (c.has_fixed.ensures.0 c.if-not-has_fixed.false) fits in
    subst (λ k. IsStanding octets (Whole c.in-Some.form (3 + k))) (sym c.from-end.ensures) w
