use Rattle.std.proofs.Common.{List, refl, sym, subst, ◌∙◌, arith}
use Rattle.perc_published.specs.Calls.{Reading}
use Rattle.perc_station_tests.proofs.Making.{IsMaking, making_more}
use Rattle.perc_station_tests.proofs.stations.stations_of.Goals as goal

pub loop-reader-preserved : goal.loop-reader-preserved
loop-reader-preserved c =
    let l = c.loop-reader in
    let readers = c.args.readers.items in
    subst (IsMaking readers c.args.count c.next.new.self.rest.items) (sym c.in-Ok.ensures.items)
    (making_more readers c.args.count c.in-Some.reader c.next.new.self.rest.items l.stations.items _
    (subst (λ (rest : List Reading). IsMaking readers c.args.count rest l.stations.items) c.in-Some.ensures.steps.0 l.invariant)
    (c.in_ok-worker.ensures.share.0 ∙ c.len-number.ensures ∙ l.stations.ok.0) c.in_ok-worker.ensures.share.1 refl)
