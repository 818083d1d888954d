use Rattle.std.proofs.Common.{◌≡◌, ◌∙◌, ◌||◌, Bool, false, refl, ap, sym}
use Rattle.std.specs.List.{list_any}
use Rattle.perc_kdf.specs.Order.{same_pair}
use Rattle.perc_member.specs.Each.{MirrorsMember}
use Rattle.perc_member.specs.declared.member.Member as code_member
use Rattle.perc_run.specs.Joining.{has_pair}
use Rattle.perc_conference_state.specs.Lookups.{brought}
use Rattle.perc_conference_state.proofs.Lists.{any_same}
use Rattle.perc_conference_state.proofs.conference.Conference.are_used.Goals as goal

pub returns-else-eq : goal.returns-else-eq
returns-else-eq c = λ s mirrors.
    let either = λ (m : code_member.Member). brought c.args.client.now m || brought c.args.server.now m in
    let own : same_pair c.args.client.now c.args.server.now ≡ false = sym c.eq.ensures ∙ c.if-eq.false in
    c.has_either.ensures ∙ ap (list_any either) c.deref.ensures.value
    ∙ any_same MirrorsMember either (λ m. has_pair c.args.client.now m || has_pair c.args.server.now m)
    c.args.self.now.members.items s.members mirrors.members (λ x m is. rw (is.client, is.server) refl)
    ∙ ap (λ (b : Bool). b || list_any (λ m. has_pair c.args.client.now m || has_pair c.args.server.now m) s.members) (sym own)
