use Rattle.std.proofs.Common.{◌≡◌, sym, ap, subst, ◌∙◌, refl}
use Rattle.perc_base.specs.declared.profile.Profile.{Profile}
use Rattle.perc_keydist.specs.Distributing.{Turn, issue, rolling}
use Rattle.perc_keydist.specs.KeyDistributor.{KeyDistributor, Rolls, state_of}
use Rattle.perc_keydist.proofs.CallLaws.{once_same}
use Rattle.perc_keydist.proofs.Rolling.{rolled_is}
use Rattle.perc_keydist.proofs.distributor.KeyDist.roll.Goals as goal

pub returns-clause-rolled : goal.returns-clause-rolled
returns-clause-rolled g c = λ a l drawn ready told known left.
    let r = c.roll_on-granted in
    let s = state_of c.args.self.now l in
    let profile : c.self.inside.desk.profile ≡ c.args.self.now.profile = ap (λ (k : KeyDistributor). k.profile) c.self.view_is in
    subst (λ (t : Turn). Rolls t r.result c.args.out.now.items r.new.out.items (g.K.Keeper.lists r.new.keeper) (g.R.Randoms.left r.new.randoms))
    (ap (λ (p : Profile). rolling a s (issue p s.lists drawn)) profile ∙ sym (rolled_is a s drawn)) (r.ensures.told a s drawn (sym profile) told known left)

pub returns-in-Some-clause-once : goal.returns-in-Some-clause-once
returns-in-Some-clause-once g c = once_same _ _ _ _ _ refl refl

pub returns-clause-once : goal.returns-clause-once
returns-clause-once g c = c.roll_on-granted.ensures.once
