use Rattle.std.proofs.Common.{◌+◌, List, drop, sym, ap, ◌∙◌}
use Rattle.perc_keyset.specs.declared.Entry.{Entry}
use Rattle.perc_distributor.specs.Inbound.{in_set}
use Rattle.perc_distributor.proofs.Entries.{drop_at, in_set_here, in_set_past}
use Rattle.perc_distributor.proofs.slot.is_in.Goals as goal

pub returns-then-at-serial : goal.returns-then-at-serial
returns-then-at-serial c =
    let e : Entry = c.at.result.now in
    let parts = drop_at c.args.set.now c.loop-i.i e c.at.ensures in
    sym (c.loop-i.invariant ∙ ap (λ (es : List Entry). in_set es c.args.serial) parts ∙ in_set_here e (drop (c.loop-i.i + 1) c.args.set.now) c.args.serial c.if-at-serial.true)

pub loop-i-preserved : goal.loop-i-preserved
loop-i-preserved c =
    let e : Entry = c.at.result.now in
    let parts = drop_at c.args.set.now c.loop-i.i e c.at.ensures in
    c.loop-i.invariant ∙ ap (λ (es : List Entry). in_set es c.args.serial) parts ∙ in_set_past e (drop (c.loop-i.i + 1) c.args.set.now) c.args.serial c.if-at-serial.false
