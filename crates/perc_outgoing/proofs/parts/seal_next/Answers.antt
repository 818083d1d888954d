-- The free index isn't refused.
use Rattle.perc_outgoing.proofs.parts.seal_next.Goals as goal

pub unreachable-requires : goal.unreachable-requires
unreachable-requires c =
    let r = c.requires.free in
    let told = rw r.4.free at (c.in_default.ensures.answer r.2 r.0 r.1 r.4.window r.4.reads) in
    let bad = told.0 in cc

pub returns-clause-len : goal.returns-clause-len
returns-clause-len c =
    let r = c.requires.free in
    let told = rw r.4.free at (c.in-Ok.ensures.answer r.2 r.0 r.1 r.4.window r.4.reads) in
    let same = told.0 in cc

pub returns-clause-sealed : goal.returns-clause-sealed
returns-clause-sealed c = λ h body before at is.
    let told = rw is.free at (c.in-Ok.ensures.answer before h body is.window is.reads) in told.1

pub returns-clause-window : goal.returns-clause-window
returns-clause-window c = λ h body before at is.
    let told = rw is.free at (c.in-Ok.ensures.answer before h body is.window is.reads) in told.2
