use Rattle.std.proofs.Common.{subst, refl}
use Rattle.perc_keydist.specs.KeyDistributor.{FeedsSo, KeyDistributor}
use Rattle.perc_keydist.proofs.CallLaws.{once_same}
use Rattle.perc_keydist.proofs.Feeds.{feed_so, view}
use Rattle.perc_keydist.proofs.distributor.KeyDist.feed.Goals as goal

pub returns-clause-fed : goal.returns-clause-fed
returns-clause-fed g c = λ ready.
    let a = c.hear_all-answer in
    subst (λ (k : KeyDistributor). FeedsSo k c.args.bytes.now a.result (view a.new.desk a.new.decoder c.err-self-inside.result) (g.H.Handshake.answers c.args.hand.now)
    (g.K.Keeper.lists c.args.keeper.now) (g.K.Keeper.lists a.new.keeper) (g.R.Randoms.left c.args.randoms.now) (g.R.Randoms.left a.new.randoms) c.args.out.now.items a.new.out.items)
    c.self.view_is
    (feed_so c.self.inside.desk a.new.desk c.self.inside.decoder a.new.decoder c.self.inside.fault c.err-self-inside.result c.args.bytes.now a.result _ _ _ _ _ _ _ c.err-self-inside.ensures.value
    a.ensures.part a.ensures.heard)

pub returns-in-Some-clause-once : goal.returns-in-Some-clause-once
returns-in-Some-clause-once g c = once_same _ _ _ _ _ refl refl

pub returns-clause-once : goal.returns-clause-once
returns-clause-once g c = c.hear_all-answer.ensures.once
