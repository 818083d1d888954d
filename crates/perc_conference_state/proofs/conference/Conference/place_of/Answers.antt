use Rattle.std.proofs.Common.{sym, ap, ◌∙◌, refl}
use Rattle.std.specs.List.{position}
use Rattle.perc_conference_state.specs.Lookups.{is_here}
use Rattle.perc_conference_state.proofs.Places.{found_at, found_nowhere, position_named}
use Rattle.perc_conference_state.proofs.conference.Conference.place_of.Goals as goal

pub returns-in-Some : goal.returns-in-Some
returns-in-Some c = λ s mirrors.
    let here = c.place_named.ensures ∙ ap (position (is_here c.args.name.now)) c.deref.ensures.value in
    found_at s c.args.name.now c.in-Some.place (sym (position_named c.args.self.now.members.items s c.args.name.now mirrors.members) ∙ sym here ∙ c.in-Some.is)

pub returns-in-None : goal.returns-in-None
returns-in-None c = λ s mirrors.
    let here = c.place_named.ensures ∙ ap (position (is_here c.args.name.now)) c.deref.ensures.value in
    (found_nowhere s c.args.name.now (sym (position_named c.args.self.now.members.items s c.args.name.now mirrors.members) ∙ sym here ∙ c.in-None.is), refl)
