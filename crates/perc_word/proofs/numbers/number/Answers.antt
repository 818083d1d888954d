use Rattle.std.proofs.Common.{◌+◌, ◌*◌, ◌-◌, drop, get_or, sym, ◌∙◌, arith}
use Rattle.std.proofs.lemmas.List.{at_drop_more, at_drop_all}
use Rattle.perc_word.specs.Word.{value_onto}
use Rattle.perc_word.proofs.Numerals.{number_none_form, number_none_greater, number_some, numeral_digit}
use Rattle.perc_word.proofs.numbers.number.Goals as goal

pub returns-then-not-is_numeral-clause-value : goal.returns-then-not-is_numeral-clause-value
returns-then-not-is_numeral-clause-value c =
    sym (number_none_form c.args.greatest c.args.word.now (sym c.is_numeral.ensures ∙ c.if-not-is_numeral.true) (omega arith))

pub overflow_sub-digit : goal.overflow_sub-digit
overflow_sub-digit c = numeral_digit c.args.word.now c.loop-digit.digit-index (sym c.is_numeral.ensures ∙ c.if-not-is_numeral.false) (omega arith)

pub returns-then-number-greatest-clause-value : goal.returns-then-number-greatest-clause-value
returns-then-number-greatest-clause-value c =
    let word = c.args.word.now in
    let i = c.loop-digit.digit-index in
    let digit = get_or word i 0 in
    let rest = sym (at_drop_more (value_onto c.loop-digit.number) word i 0 (omega arith)) ∙ c.loop-digit.invariant.rest in
    sym (number_none_greater c.args.greatest (10 * c.loop-digit.number + (digit - 48)) word (drop (i + 1) word) rest (omega arith))

pub returns-clause-value : goal.returns-clause-value
returns-clause-value c =
    let word = c.args.word.now in
    let all = sym (at_drop_all (value_onto c.loop-digit.number) word c.loop-digit.digit-index (omega arith)) ∙ c.loop-digit.invariant.rest in
    sym (number_some c.args.greatest c.loop-digit.number word (sym c.is_numeral.ensures ∙ c.if-not-is_numeral.false) (sym all) c.loop-digit.invariant.bound (omega arith))
