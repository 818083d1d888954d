use Rattle.std.proofs.Common.{subst, sym}
use Rattle.std.specs.Prelude.{IfSome}
use Rattle.perc_ekt.specs.Record.{IsRecord}
use Rattle.perc_keeper.proofs.KeptLaws.{newest_right}
use Rattle.perc_keeper.proofs.memory.issued.Issued.newest.Goals as goal

pub returns-clause-right : goal.returns-clause-right
returns-clause-right c =
    subst (λ o. IfSome o IsRecord) (sym c.self.invariant.last) (newest_right c.self.inside.records.items c.self.invariant.right)
