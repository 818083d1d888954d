use Rattle.std.proofs.Common.{subst, sym}
use Rattle.std.specs.List.{All}
use Rattle.std.specs.Prelude.{IfSome}
use Rattle.perc_keeper.specs.Lists.{HasKeys, is_of}
use Rattle.perc_keeper.proofs.KeptLaws.{find_passes}
use Rattle.perc_keeper.proofs.memory.MemKeeperKeeper.member.Goals as goal

pub returns-clause-right : goal.returns-clause-right
returns-clause-right c =
    subst (λ o. IfSome o HasKeys) (sym c.keys_of.ensures)
    (find_passes HasKeys (is_of c.args.association.now) c.as_slice.result.now (subst (All HasKeys) (sym c.as_slice.ensures.value) c.make_call.new.self.right))
