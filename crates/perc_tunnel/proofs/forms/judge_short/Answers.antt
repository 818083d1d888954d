use Rattle.std.proofs.Common.{◌≡◌, length, get_or, arith}
use Rattle.perc_octets.specs.Octets.{AreOctets}
use Rattle.perc_tunnel.specs.Forms.{IsShortKind}
use Rattle.perc_tunnel.proofs.Judging.{refuted, judged_short_part, judged_short_fault}
use Rattle.perc_tunnel.proofs.forms.judge_short.Goals as goal
use Rattle.perc_tunnel.proofs.forms.judge_short.Goals.{else-octets-eq2-via-then-octets-eq2+then-octets-ne0+else-is_short, else-octets-eq2-via-then-octets-eq2+else-octets-ne0, else-octets-eq2-via-else-octets-eq2}

pub returns-then-is_short : goal.returns-then-is_short
returns-then-is_short c =
    judged_short_fault c.args.octets.now c.if-octets-eq2.true c.if-octets-ne0.true (c.is_short.ensures.0 c.if-is_short.true)

pub returns-else-octets-eq2 : goal.returns-else-octets-eq2
returns-else-octets-eq2 c =
    let octets = c.args.octets.now in
    let each : AreOctets octets = λ i. omega (arith, c.type_inv.octets i) in
    let zero : length octets ≡ 2 → IsShortKind (get_or octets 0 0) → get_or octets 1 0 ≡ 0 = λ two short.
    elim c.else-octets-eq2.branch [
      | else-octets-eq2-via-then-octets-eq2+then-octets-ne0+else-is_short w ↦ absurd (refuted w.is_short.result w.is_short.ensures w.if-is_short.false short)
      | else-octets-eq2-via-then-octets-eq2+else-octets-ne0 w ↦ let z = w.if-octets-ne0.false in omega arith
      | else-octets-eq2-via-else-octets-eq2 w ↦ let z = w.if-octets-eq2.false in absurd (z two)
    ] in
    judged_short_part octets c.requires.some c.requires.short each c.requires.kind zero
