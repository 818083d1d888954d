use Rattle.std.proofs.Common.{◌+◌, List, drop, sym, ap, ◌∙◌}
use Rattle.perc_keyset.specs.Set.{entry_of}
use Rattle.perc_keyset.specs.declared.Entry.{Entry}
use Rattle.perc_distributor.proofs.Entries.{drop_at, entry_here, entry_past}
use Rattle.perc_distributor.proofs.inbound.entry_of.Goals as goal

pub returns-then-eq-clause-entry : goal.returns-then-eq-clause-entry
returns-then-eq-clause-entry c =
    let e : Entry = c.at-entry.result.now in
    let parts = drop_at c.args.set.now c.loop-i.i e c.at-entry.ensures in
    sym (c.loop-i.invariant ∙ ap (λ (es : List Entry). entry_of es c.args.association.now) parts
    ∙ entry_here e (drop (c.loop-i.i + 1) c.args.set.now) c.args.association.now (sym c.eq.ensures ∙ c.if-eq.true))

pub loop-i-preserved : goal.loop-i-preserved
loop-i-preserved c =
    let e : Entry = c.at-entry.result.now in
    let parts = drop_at c.args.set.now c.loop-i.i e c.at-entry.ensures in
    c.loop-i.invariant ∙ ap (λ (es : List Entry). entry_of es c.args.association.now) parts
    ∙ entry_past e (drop (c.loop-i.i + 1) c.args.set.now) c.args.association.now (sym c.eq.ensures ∙ c.if-eq.false)
