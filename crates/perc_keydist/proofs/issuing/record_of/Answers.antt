use Rattle.std.proofs.Common.{drop, ap, ◌∙◌}
use Rattle.perc_base.specs.Profile.{key_length}
use Rattle.perc_keydist.proofs.IssuingLaws.{stored_zeros}
use Rattle.perc_keydist.proofs.issuing.record_of.Goals as goal

pub record_with-requires : goal.record_with-requires
record_with-requires c = ap (drop (key_length c.args.profile)) c.stored_key.ensures ∙ stored_zeros c.args.profile c.args.pair.now.key c.requires
