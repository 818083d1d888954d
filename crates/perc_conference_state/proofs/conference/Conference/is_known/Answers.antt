use Rattle.std.proofs.Common.{ap, ◌∙◌, ◌||◌, ◌==◌, refl}
use Rattle.std.specs.List.{list_any}
use Rattle.perc_member.specs.Each.{MirrorsMember}
use Rattle.perc_run.specs.State.{has_name}
use Rattle.perc_conference_state.specs.Lookups.{is_known_as}
use Rattle.perc_conference_state.proofs.Lists.{any_same}
use Rattle.perc_conference_state.proofs.conference.Conference.is_known.Goals as goal

pub returns : goal.returns
returns c = λ s mirrors.
    let known = is_known_as c.args.name.now c.args.ssrc in
    c.has_anyone.ensures ∙ ap (list_any known) c.deref.ensures.value
    ∙ any_same MirrorsMember known (λ m. has_name c.args.name.now m || (m.ssrc == c.args.ssrc))
    c.args.self.now.members.items s.members mirrors.members (λ x m is. rw (is.name, is.ssrc) refl)
