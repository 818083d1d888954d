use Rattle.std.proofs.Common.{◌≡◌, true, sym, subst, ◌∙◌}
use Rattle.perc_keeper.specs.Lists.{is_member, without_member}
use Rattle.perc_key_service.specs.Keeper.{faultless_lists}
use Rattle.perc_key_service.specs.Service.{Service}
use Rattle.perc_key_service.proofs.Services.{service_kept}
use Rattle.perc_key_service.proofs.service.KeyService.leave.Goals as goal

pub let_go-requires-clause-serving : goal.let_go-requires-clause-serving
let_go-requires-clause-serving c = c.self.invariant.1

pub let_go-requires-clause-member : goal.let_go-requires-clause-member
let_go-requires-clause-member c = subst (λ (s : Service). is_member s.lists.members c.args.association.now ≡ true) (sym c.self.view_is) c.requires.member

pub invariant_of-self : goal.invariant_of-self
invariant_of-self c = (c.let_go.ensures.profile ∙ c.self.invariant.0, c.let_go.ensures.serving)

pub returns : goal.returns
returns c =
    let i = c.self.inside in
    service_kept c.let_go.result i.profile i.keydist (faultless_lists i.keeper) (faultless_lists c.let_go.new.keeper) c.args.self.now
    (λ s. without_member c.args.association.now s.lists) c.self.invariant.0 c.self.view_is c.let_go.ensures.left
