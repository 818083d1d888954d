use Rattle.std.specs.BTreeMap as tree
use Rattle.std.specs.Prelude.{None}
use Rattle.perc_kdf.specs.Order.{pair_cmp}
use Rattle.perc_keyset.specs.declared.given.Gift.{Gift}
use Rattle.perc_keyset.proofs.GivenLaws.{Writes-updates, writes_both}
use Rattle.perc_keyset.proofs.given.take_back.Goals as goal

pub returns : goal.returns
returns c =
    writes_both {X = Gift} c.args.entry.now.client c.args.entry.now.server None (tree.get pair_cmp c.args.given.now) (tree.get pair_cmp c.remove.new.self) (tree.get pair_cmp c.remove-2.new.self)
    (Writes-updates c.args.given.now c.remove.new.self c.args.entry.now.client None c.remove.ensures.updates)
    (Writes-updates c.remove.new.self c.remove-2.new.self c.args.entry.now.server None c.remove-2.ensures.updates)
