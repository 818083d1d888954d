use Rattle.perc_membership.proofs.Publishing.{members_are_published}
use Rattle.perc_membership.proofs.published_membership.Goals as goal

pub returns : goal.returns
returns c = members_are_published
