use Rattle.std.proofs.Common.{None, Some, Err, sym, ◌∙◌}
use Rattle.perc_conference_state.specs.declared.conference.Stop.TheVariants as stop
use Rattle.perc_replay.proofs.Turning.{is_fit, is_unfit, says}
use Rattle.perc_run.specs.Delivering.{by_cipher}
use Rattle.perc_run.specs.State.{Refused}
use Rattle.perc_run.specs.Turn.{first_turn, form_turn}
use Rattle.perc_script_line.specs.Script.{fits}
use Rattle.perc_script_line.specs.View.{script_said}
use Rattle.perc_script_line.specs.declared.reason.Reason.TheVariants.{Form}
use Rattle.perc_replay.proofs.turn.turn.Goals as goal

pub returns-in_default-profile : goal.returns-in_default-profile
returns-in_default-profile c = λ s orderly mirrors.
    let new = c.first_turn.new.conference in
    let text = c.args.text.now.items in
    let said = script_said c.in-Some.said in
    says c.args.conference.now new s c.args.line.now said None c.first_turn.result text text c.in-Some.ensures c.in_default-profile.is mirrors
    (c.first_turn.ensures s text orderly mirrors)

pub returns-then-not-fits : goal.returns-then-not-fits
returns-then-not-fits c = λ s orderly mirrors.
    let old = c.args.conference.now in
    let text = c.args.text.now.items in
    let said = script_said c.in-Some.said in
    let profile = c.in-Some-profile.profile in
    says old old s c.args.line.now said (Some profile) (Err (stop.Refused Form)) text text c.in-Some.ensures c.in-Some-profile.is mirrors
    (is_unfit (form_turn by_cipher s profile said) (fits profile said) text text old (sym c.fits.ensures ∙ c.if-not-fits.true))

pub form_turn-requires-clause-script : goal.form_turn-requires-clause-script
form_turn-requires-clause-script c = ((c.one_spelling.ensures c.args.line.now (script_said c.in-Some.said)).0 (sym c.in-Some.ensures)).1

pub returns : goal.returns
returns c = λ s orderly mirrors.
    let new = c.form_turn.new.conference in
    let before = c.args.text.now.items in
    let after = c.form_turn.new.text.items in
    let said = script_said c.in-Some.said in
    let profile = c.in-Some-profile.profile in
    let goes = form_turn by_cipher s profile said in
    says c.args.conference.now new s c.args.line.now said (Some profile) c.form_turn.result before after c.in-Some.ensures c.in-Some-profile.is mirrors
    (is_fit goes (fits profile said) c.form_turn.result before after new (sym c.fits.ensures ∙ c.if-not-fits.false) (c.form_turn.ensures s orderly mirrors))
