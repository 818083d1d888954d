use Rattle.perc_membership.proofs.Keeping.{members_are_held}
use Rattle.perc_membership.proofs.membership.Goals as goal

pub returns : goal.returns
returns c = members_are_held
