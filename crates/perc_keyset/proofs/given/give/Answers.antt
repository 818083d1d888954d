use Rattle.std.specs.BTreeMap as tree
use Rattle.std.specs.Prelude.{None, Some}
use Rattle.std.proofs.Common.{◌∙◌, sym}
use Rattle.perc_kdf.specs.Order.{pair_cmp}
use Rattle.perc_keyset.specs.Kept.{gift_of}
use Rattle.perc_keyset.specs.declared.given.Gift.{Gift}
use Rattle.perc_keyset.proofs.GivenLaws.{Writes-updates, on_err, on_ok, same_entries, writes_back, writes_both}
use Rattle.perc_keyset.proofs.given.give.Goals as goal

pub returns-then-is_err-2-clause-refused : goal.returns-then-is_err-2-clause-refused
returns-then-is_err-2-clause-refused c =
    let put = on_ok c.insert.result (sym c.is_err.ensures.value ∙ c.if-is_err.false) c.insert.ensures.updates in
    let stayed = on_err c.insert-2.result (sym c.is_err-2.ensures.value ∙ c.if-is_err-2.true) c.insert-2.ensures.err in
    let out = Writes-updates {X = Gift} c.insert-2.new.self c.remove.new.self c.args.entry.now.client None c.remove.ensures.updates in
    writes_back {X = Gift} c.args.entry.now.client (Some (gift_of c.args.entry.now)) (tree.get pair_cmp c.args.given.now) (tree.get pair_cmp c.insert-2.new.self) (tree.get pair_cmp c.remove.new.self)
    c.requires
    (λ q. same_entries {X = Gift} c.insert.new.self c.insert-2.new.self stayed q ∙ Writes-updates {X = Gift} c.args.given.now c.insert.new.self c.args.entry.now.client (Some (gift_of c.args.entry.now)) put q)
    out

pub returns-clause-given : goal.returns-clause-given
returns-clause-given c =
    let client = on_ok c.insert.result (sym c.is_err.ensures.value ∙ c.if-is_err.false) c.insert.ensures.updates in
    let server = on_ok c.insert-2.result (sym c.is_err-2.ensures.value ∙ c.if-is_err-2.false) c.insert-2.ensures.updates in
    writes_both {X = Gift} c.args.entry.now.client c.args.entry.now.server (Some (gift_of c.args.entry.now)) (tree.get pair_cmp c.args.given.now) (tree.get pair_cmp c.insert.new.self) (tree.get pair_cmp c.insert-2.new.self)
    (Writes-updates c.args.given.now c.insert.new.self c.args.entry.now.client (Some (gift_of c.args.entry.now)) client)
    (Writes-updates c.insert.new.self c.insert-2.new.self c.args.entry.now.server (Some (gift_of c.args.entry.now)) server)
