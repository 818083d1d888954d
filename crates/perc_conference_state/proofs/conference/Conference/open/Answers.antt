use Rattle.perc_conference_state.proofs.Headed.{opens}
use Rattle.perc_conference_state.proofs.conference.Conference.open.Goals as goal

pub returns : goal.returns
returns c = λ s text orderly mirrors.
    opens c.args.self.now s c.args.profile c.in_ok-new.field-0 text c.requires.head c.in_ok-new.ensures orderly mirrors
