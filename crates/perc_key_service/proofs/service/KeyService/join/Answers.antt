use Rattle.std.specs.Prelude.{IfOk}
use Rattle.std.proofs.Common.{◌≡◌, ℕ, List, sym, subst, ◌∙◌}
use Rattle.perc_keeper.specs.Lists.{with_member}
use Rattle.perc_key_service.specs.Keeper.{faultless_lists}
use Rattle.perc_key_service.specs.Replies.{AreReplies}
use Rattle.perc_key_service.specs.Service.{Service, MayJoin, keys_as}
use Rattle.perc_key_service.specs.Serving.{service_of}
use Rattle.perc_key_service.proofs.Services.{same_service, service_kept, whatever}
use Rattle.perc_key_service.proofs.service.KeyService.join.Goals as goal

pub let_in-requires-clause-profile : goal.let_in-requires-clause-profile
let_in-requires-clause-profile c = c.self.invariant.0

pub let_in-requires-clause-serving : goal.let_in-requires-clause-serving
let_in-requires-clause-serving c = c.self.invariant.1

pub let_in-requires-clause-may : goal.let_in-requires-clause-may
let_in-requires-clause-may c =
    let i = c.self.inside in (
      c.requires.may.0,
      subst (λ (s : Service). MayJoin s c.args.association.now c.args.client.now c.args.server.now c.requires.may.0)
          (sym (same_service i.profile i.keydist (faultless_lists i.keeper) c.args.self.now c.self.invariant.0 c.self.view_is)) c.requires.may.1,
    )

pub invariant_of-self : goal.invariant_of-self
invariant_of-self c = (c.let_in.ensures.profile ∙ c.self.invariant.0, c.let_in.ensures.serving)

pub invariant_of-self-2 : goal.invariant_of-self-2
invariant_of-self-2 c = (c.let_in.ensures.profile ∙ c.self.invariant.0, c.let_in.ensures.serving)

pub read_replies-requires : goal.read_replies-requires
read_replies-requires c =
    let i = c.self.inside in
    let l = faultless_lists i.keeper in
    let may = subst (λ (s : Service). MayJoin s c.args.association.now c.args.client.now c.args.server.now c.requires.may.0)
    (sym (same_service i.profile i.keydist l c.args.self.now c.self.invariant.0 c.self.view_is)) c.requires.may.1 in (
      keys_as (service_of i.keydist l) c.args.association.now c.args.client.now c.args.server.now,
      c.requires.may.0,
      subst (λ (xs : List ℕ). AreReplies i.profile (keys_as (service_of i.keydist l) c.args.association.now c.args.client.now c.args.server.now) c.requires.may.0 xs) (sym c.as_slice.ensures.value)
          (c.in_ok-replies.ensures.replies c.requires.may.0 may),
    )

pub returns-clause-answer : goal.returns-clause-answer
returns-clause-answer c = λ granted given.
    let i = c.self.inside in
    let l = faultless_lists i.keeper in
    let same = same_service i.profile i.keydist l c.args.self.now c.self.invariant.0 c.self.view_is in
    let may = subst (λ (s : Service). MayJoin s c.args.association.now c.args.client.now c.args.server.now granted) (sym same) given in
    let keys = keys_as (service_of i.keydist l) c.args.association.now c.args.client.now c.args.server.now in
    let are = subst (λ (xs : List ℕ). AreReplies i.profile keys granted xs) (sym c.as_slice.ensures.value) (c.in_ok-replies.ensures.replies granted may) in
    subst
    (λ (s : Service). IfOk c.read_replies.result (λ joined. joined ≡ record { keys = keys_as s c.args.association.now c.args.client.now c.args.server.now; client = c.args.client.now; server = c.args.server.now; granted = granted }))
    same (c.read_replies.ensures keys granted are)

pub returns-clause-joined : goal.returns-clause-joined
returns-clause-joined c =
    let i = c.self.inside in
    service_kept c.read_replies.result i.profile i.keydist (faultless_lists i.keeper) (faultless_lists c.let_in.new.keeper) c.args.self.now
    (λ s. with_member (keys_as s c.args.association.now c.args.client.now c.args.server.now) s.lists) c.self.invariant.0 c.self.view_is (whatever c.read_replies.result c.in_ok-replies.ensures.joined)
