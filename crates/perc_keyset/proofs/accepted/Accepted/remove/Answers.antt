use Rattle.std.proofs.Common.{◌∙◌, sym}
use Rattle.perc_keyset.proofs.GivenLaws.{on_ok}
use Rattle.perc_keyset.proofs.KeptLaws.{kept_removed}
use Rattle.perc_keyset.proofs.accepted.Accepted.remove.Goals as goal

pub invariant_of-self-2 : goal.invariant_of-self-2
invariant_of-self-2 c =
    kept_removed c.self.inside.set.value _ c.self.inside.ops.items _ _ _ c.args.association.now c.self.invariant (cc)
    (on_ok c.append.result (sym c.is_err.ensures.value ∙ c.if-is_err.false) c.append.ensures.appended)
