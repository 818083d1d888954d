-- Where nothing was accepted, and above the highest index, each index is fresh.
use Rattle.std.proofs.Common.{arith}
use Rattle.std.proofs.lemmas.Bool.Decides.{nat_tests}
use Rattle.perc_window.proofs.IndexLaws.{freshness_same}
use Rattle.perc_window.proofs.window.Window.fresh.Goals as goal

pub returns-in_default-clause-accepted : goal.returns-in_default-clause-accepted
returns-in_default-clause-accepted c = λ accepted stands.
    let same = freshness_same c.args.self.now accepted c.args.index stands in
    grind (arith, nat_tests)

pub returns-then-index-highest-clause-accepted : goal.returns-then-index-highest-clause-accepted
returns-then-index-highest-clause-accepted c = λ accepted stands.
    let same = freshness_same c.args.self.now accepted c.args.index stands in
    grind (arith, nat_tests)
