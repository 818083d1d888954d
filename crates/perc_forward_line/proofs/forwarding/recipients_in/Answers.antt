use Rattle.std.proofs.Common.{◌≡◌, List, ℕ, Some, sym, ap, ◌∙◌}
use Rattle.std.proofs.lemmas.Result.{err_from_is_err_and}
use Rattle.perc_forward_line.proofs.Choosing.{names_absent, names_all, names_begin, names_step}
use Rattle.perc_forward_line.proofs.forwarding.recipients_in.Goals as goal

pub loop-name-init : goal.loop-name-init
loop-name-init c = names_begin c.args.conference.now c.into_iter-name-iterator.result c.new-to.result.items c.new-to.ensures.items

pub returns-in_err-place_of : goal.returns-in_err-place_of
returns-in_err-place_of c = λ s mirrors.
    let p = err_from_is_err_and c.from_residual.result c.from_residual.ensures.1 in
    let none = c.in_err-place_of.ensures s mirrors in
    names_absent c.args.conference.now s c.args.names c.into_iter-name-iterator.result c.loop-name.to.items c.loop-name.name-iterator c.next.new.self c.in-Some-name.name c.from_residual.result p.0 c.loop-name.invariant
    (c.in-Some.is ∙ ap (λ (xs : List (List ℕ)). Some xs) (sym c.into_iter-name-iterator.ensures.into_iter_gives)) c.in-Some-name.ensures.steps none.0 p.1 (p.2 ∙ none.1)

pub loop-name-preserved : goal.loop-name-preserved
loop-name-preserved c =
    names_step c.args.conference.now c.into_iter-name-iterator.result c.loop-name.to.items c.loop-name.name-iterator c.next.new.self c.push.new.self.items c.in-Some-name.name c.loop-name.invariant c.in-Some-name.ensures.steps
    (λ s mirrors. let found = c.in_ok-place_of.ensures s mirrors in (found.0, found.1)) c.in_ok-push.ensures.items

pub returns : goal.returns
returns c = λ s mirrors.
    names_all c.args.conference.now s c.args.names c.into_iter-name-iterator.result c.loop-name.to.items c.loop-name.name-iterator c.loop-name.invariant mirrors
    (c.in-Some.is ∙ ap (λ (xs : List (List ℕ)). Some xs) (sym c.into_iter-name-iterator.ensures.into_iter_gives)) c.in-None.ensures.steps.0
