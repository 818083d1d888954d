use Rattle.std.proofs.Common.{◌≡◌, ◌+◌, ◌*◌, ◌%◌, true, sym, ◌∙◌, arith}
use Rattle.std.proofs.lemmas.Bool.Decides.{nat_tests}
use Rattle.perc_window.specs.Index.{is_near}
use Rattle.perc_window.proofs.IndexLaws.{nearest_in_turn, nearest_below}
use Rattle.perc_window.proofs.window.nearest_to.Goals as goal
use Rattle.perc_window.proofs.window.nearest_to.Goals.{then-seq-last+in_ok-turn, else-seq-last+then-last-seq, else-seq-last+else-last-seq}

pub returns-in_err-turn : goal.returns-in_err-turn
returns-in_err-turn c =
    let first = c.in_err-turn.ensures in
    c.from_residual.ensures ∙ sym (nearest_below c.args.highest c.args.seq (omega (arith, first)) (omega arith))

pub returns : goal.returns
returns c =
    let index = c.if-seq-last.turn * 65536 + c.args.seq in
    let congruent : index % 65536 ≡ c.args.seq = omega arith in
    let near : is_near c.args.highest index ≡ true =
    elim c.if-seq-last.branch [
      | then-seq-last+in_ok-turn w ↦ let h = w.in_ok-turn.ensures in grind (arith, nat_tests)
      | else-seq-last+then-last-seq w ↦ grind (arith, nat_tests)
      | else-seq-last+else-last-seq w ↦ grind (arith, nat_tests)
    ]
    in
    (rw c.from-seq.ensures at c.then_some.ensures) ∙ sym (nearest_in_turn c.args.highest c.args.seq index congruent near)
