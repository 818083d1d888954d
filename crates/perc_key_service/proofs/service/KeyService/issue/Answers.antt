use Rattle.std.specs.Prelude.{IfOk}
use Rattle.std.proofs.Common.{◌≡◌, sym, subst, ◌∙◌}
use Rattle.perc_keeper.specs.Lists.{with_issued}
use Rattle.perc_key_service.specs.Keeper.{faultless_lists}
use Rattle.perc_key_service.specs.Service.{Service, MayIssue, issued_as}
use Rattle.perc_key_service.proofs.Services.{same_service, service_kept}
use Rattle.perc_key_service.proofs.service.KeyService.issue.Goals as goal

pub issue-requires-clause-serving : goal.issue-requires-clause-serving
issue-requires-clause-serving c = c.self.invariant.1

pub issue-requires-clause-may : goal.issue-requires-clause-may
issue-requires-clause-may c =
    let i = c.self.inside in
    subst (λ (s : Service). MayIssue s c.args.key.now) (sym (same_service i.profile i.keydist (faultless_lists i.keeper) c.args.self.now c.self.invariant.0 c.self.view_is)) c.requires.may

pub invariant_of-self : goal.invariant_of-self
invariant_of-self c = (c.issue.ensures.profile ∙ c.self.invariant.0, c.issue.ensures.serving)

pub returns-clause-answer : goal.returns-clause-answer
returns-clause-answer c =
    let i = c.self.inside in
    subst (λ (s : Service). IfOk c.issue.result (λ r. r ≡ issued_as s c.args.key.now c.args.salt.now))
    (same_service i.profile i.keydist (faultless_lists i.keeper) c.args.self.now c.self.invariant.0 c.self.view_is) c.issue.ensures.answer

pub returns-clause-issued : goal.returns-clause-issued
returns-clause-issued c =
    let i = c.self.inside in
    service_kept c.issue.result i.profile i.keydist (faultless_lists i.keeper) (faultless_lists c.issue.new.keeper) c.args.self.now
    (λ s. with_issued (issued_as s c.args.key.now c.args.salt.now) s.lists) c.self.invariant.0 c.self.view_is c.issue.ensures.issued
