use Rattle.std.proofs.Common.{◌≡◌, List, ℕ, sym, ap, ◌∙◌, subst}
use Rattle.std.proofs.lemmas.Result.{err_from_is_err_and}
use Rattle.perc_forward_line.proofs.Choosing.{NumbersSoFar, numbers_absent, numbers_all, numbers_begin, numbers_step}
use Rattle.perc_forward_line.proofs.forwarding.numbers_in.Goals as goal

pub loop-number-init : goal.loop-number-init
loop-number-init c =
    subst (λ (left : List ℕ). NumbersSoFar c.args.conference.now c.args.list c.new-numbers.result.items left) (sym c.into_iter-number-iterator.ensures.into_iter_gives)
    (numbers_begin c.args.conference.now c.args.list c.new-numbers.result.items c.new-numbers.ensures.items)

pub returns-in_err-datagram_place : goal.returns-in_err-datagram_place
returns-in_err-datagram_place c = λ s mirrors.
    let p = err_from_is_err_and c.from_residual.result c.from_residual.ensures.1 in
    let none = c.in_err-datagram_place.ensures s mirrors in
    numbers_absent c.args.conference.now s c.args.list c.loop-number.numbers.items c.loop-number.number-iterator c.next.new.self c.in-Some.number c.from_residual.result p.0 c.loop-number.invariant c.in-Some.ensures.steps none.0 p.1
    (p.2 ∙ none.1)

pub loop-number-preserved : goal.loop-number-preserved
loop-number-preserved c =
    numbers_step c.args.conference.now c.args.list c.loop-number.numbers.items c.loop-number.number-iterator c.next.new.self c.push.new.self.items c.in-Some.number c.loop-number.invariant c.in-Some.ensures.steps
    (λ s mirrors. let found = c.in_ok-datagram_place.ensures s mirrors in (found.0, found.1)) c.in_ok-push.ensures.items

pub returns : goal.returns
returns c = λ s mirrors. numbers_all c.args.conference.now s c.args.list c.loop-number.numbers.items c.loop-number.number-iterator c.loop-number.invariant mirrors c.in-None.ensures.steps.0
