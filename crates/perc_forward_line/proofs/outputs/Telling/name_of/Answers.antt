use Rattle.perc_forward_line.proofs.Lookups.{found_name, member_some}
use Rattle.perc_forward_line.proofs.outputs.Telling.name_of.Goals as goal

pub unwrap-requires : goal.unwrap-requires
unwrap-requires c = member_some c.member_of.result c.args.self.now.members.now c.args.association.now c.member_of.ensures c.requires

pub returns : goal.returns
returns c = λ members mirrors.
    found_name c.unwrap.result c.member_of.result c.args.self.now.members.now members c.args.association.now c.unwrap.ensures c.member_of.ensures mirrors
