use Rattle.std.proofs.Common.{ap}
use Rattle.perc_replay.proofs.Turning.{head_first, nothing_first}
use Rattle.perc_script_line.specs.View.{script_said}
use Rattle.perc_replay.proofs.turn.first_turn.Goals as goal

pub returns-in-Nothing : goal.returns-in-Nothing
returns-in-Nothing c = λ s text orderly mirrors.
    nothing_first s (script_said c.args.said.now) text c.args.conference.now (ap script_said c.in-Nothing.is) mirrors

pub returns-in-Conference : goal.returns-in-Conference
returns-in-Conference c = λ s text orderly mirrors.
    head_first s c.in-Conference.profile (script_said c.args.said.now) c.open.result text _ (ap script_said c.in-Conference.is) (c.open.ensures s text orderly mirrors)
