use Rattle.std.proofs.Common.{arith, subst, ◌∙◌}
use Rattle.std.proofs.lemmas.Result.{err_from_is_err_and}
use Rattle.perc_base.specs.Room.{held_in, ReadsOn}
use Rattle.perc_base.specs.Lines.{IsDecided}
use Rattle.perc_base.proofs.Steps.{Step_decided, Step_failed, ReadsOn_more}
use Rattle.perc_base.proofs.lines.room.Room.advance.Goals as goal

pub returns-in-Some-clause-step : goal.returns-in-Some-clause-step
returns-in-Some-clause-step g c = Step_decided _ _ _ _ _ _ c.turns.invariant.reads c.in-Some.ensures

pub turns-preserved : goal.turns-preserved
turns-preserved g c =
    let undecided = c.in_default.ensures.0 in
    let same = c.in_default.ensures.1 in
    record {
      reads = ReadsOn_more _ _ _ _ _ _ c.turns.invariant.reads undecided (subst (λ h. ReadsOn h (g.S.Source.left c.turns.from) (held_in c.read_on.new.self) (g.S.Source.left c.read_on.new.from)) same c.read_on.ensures.reads);
      never_falls = omega (arith, c.read_on.ensures.never_falls);
    }

pub returns-in_err-read_on-clause-step : goal.returns-in_err-read_on-clause-step
returns-in_err-read_on-clause-step g c =
    let undecided = c.in_default.ensures.0 in
    let same = c.in_default.ensures.1 in
    let before = c.turns.invariant.reads in
    let one = subst (λ h. ReadsOn h (g.S.Source.left c.turns.from) (held_in c.read_on.new.self) (g.S.Source.left c.read_on.new.from)) same c.read_on.ensures.reads in
    let kept = c.in_err-read_on.ensures.kept in
    let p = err_from_is_err_and c.from_residual.result c.from_residual.ensures.1 in
    rw p.1 (Step_failed _ _ _ _ _ (ReadsOn_more _ _ _ _ _ _ before undecided one) (λ d. undecided (subst IsDecided (kept ∙ same) d)))
