use Rattle.std.proofs.Common.{rules}
use Rattle.perc_ohb.specs.Rewriting.{rewrite_of}
use Rattle.perc_ohb.proofs.RewritingLaws.{restored_same}
use Rattle.perc_ohb.proofs.rewriting.rewrite.Goals as goal

pub returns-clause-header : goal.returns-clause-header
returns-clause-header c = search rules

pub returns-clause-block : goal.returns-clause-block
returns-clause-block c = search rules

pub returns-clause-restored : goal.returns-clause-restored
returns-clause-restored c = λ g h rest after was is.
    restored_same g h rest after c.args.header.now c.put_marker.new.packet c.args.ohb.now _ (rewrite_of c.args.change.now) is (returns-clause-header c g rest was) (returns-clause-block c g rest was)
