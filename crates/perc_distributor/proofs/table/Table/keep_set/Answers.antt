use Rattle.perc_distributor.proofs.TableLaws.{only_staying, table_staying}
use Rattle.perc_distributor.proofs.table.Table.keep_set.Goals as goal

pub invariant_of-self : goal.invariant_of-self
invariant_of-self c = table_staying c.args.set.now c.self.inside.slots.items c.stay.new.slots.items c.stay.ensures c.self.invariant

pub returns-clause-only : goal.returns-clause-only
returns-clause-only c = only_staying c.args.set.now c.self.inside.slots.items c.stay.new.slots.items c.stay.ensures c.self.invariant
