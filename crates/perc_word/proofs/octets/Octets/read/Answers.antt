use Rattle.std.proofs.Common.{sym, ◌∙◌, arith}
use Rattle.std.proofs.lemmas.Bool.{eqb-true, eqb-false}
use Rattle.perc_word.proofs.Spelled.{spells-octets, spells_none-empty, spells_none-odd, spells_none-other}
use Rattle.perc_word.proofs.octets.Octets.read.Goals as goal
use Rattle.perc_word.proofs.octets.Octets.read.Goals.{then-is_empty-via-then-is_empty, then-is_empty-via-else-is_empty+then-word-eq1, then-is_empty-via-else-is_empty+else-word-eq1+then-not-are_digits}

pub returns-then-is_empty : goal.returns-then-is_empty
returns-then-is_empty c =
    let word = c.args.word.now in
    elim c.then-is_empty.branch [
      | then-is_empty-via-then-is_empty w ↦ sym (spells_none-empty word (eqb-true _ 0 (sym c.is_empty.ensures ∙ w.if-is_empty.true)))
      | then-is_empty-via-else-is_empty+then-word-eq1 w ↦ sym (spells_none-odd word w.if-word-eq1.true)
      | then-is_empty-via-else-is_empty+else-word-eq1+then-not-are_digits w ↦ sym (spells_none-other word (sym w.are_digits.ensures ∙ w.if-not-are_digits.true))
    ]

pub invariant_of-result : goal.invariant_of-result
invariant_of-result c =
    let word = c.args.word.now in
    let odd = c.if-word-eq1.false in
    (spells-octets word (eqb-false _ 0 (sym c.is_empty.ensures ∙ c.if-is_empty.false)) (omega arith) (sym c.are_digits.ensures ∙ c.if-not-are_digits.false)).1

pub returns : goal.returns
returns c =
    let word = c.args.word.now in
    let odd = c.if-word-eq1.false in
    sym (spells-octets word (eqb-false _ 0 (sym c.is_empty.ensures ∙ c.if-is_empty.false)) (omega arith) (sym c.are_digits.ensures ∙ c.if-not-are_digits.false)).0
