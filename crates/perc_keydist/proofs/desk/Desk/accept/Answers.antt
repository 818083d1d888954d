use Rattle.std.proofs.Common.{refl}
use Rattle.perc_keydist.proofs.CallLaws.{said_nothing, said_unsupported}
use Rattle.perc_keydist.proofs.desk.Desk.accept.Goals as goal

pub returns-then-is_some-clause-said : goal.returns-then-is_some-clause-said
returns-then-is_some-clause-said c = λ a issued. said_nothing a issued _ _ refl

pub returns-then-version-ne0-clause-said : goal.returns-then-version-ne0-clause-said
returns-then-version-ne0-clause-said c = λ a issued.
    said_unsupported a issued c.append_unsupported.result _ _ c.append_unsupported.ensures.out c.append_unsupported.ensures.refused

pub returns-in_err-numbers_of-clause-said : goal.returns-in_err-numbers_of-clause-said
returns-in_err-numbers_of-clause-said c = λ a issued. said_nothing a issued _ _ refl

pub returns-clause-said : goal.returns-clause-said
returns-clause-said c = λ a issued. said_nothing a issued _ _ refl
