use Rattle.std.proofs.Common.{List, ap, ◌∙◌}
use Rattle.perc_ekt.specs.declared.record.EktKeyRecord.{EktKeyRecord}
use Rattle.perc_keeper.specs.Lists.{spi_of}
use Rattle.perc_keeper.proofs.KeptLaws.{none_of_other_length}
use Rattle.perc_keeper.proofs.memory.issued.Issued.spi_of.Goals as goal

pub returns-in-None : goal.returns-in-None
returns-in-None c =
    none_of_other_length c.self.inside.records.items c.args.key.now c.self.invariant.right c.in-None.ensures
    ∙ ap (λ (rs : List EktKeyRecord). spi_of rs c.args.key.now) c.self.view_is
