use Rattle.std.proofs.Common.{◌≡◌, true, ap, subst}
use Rattle.perc_replay.proofs.Saying.{join_fits, key_length_of, pair_key}
use Rattle.perc_replay.proofs.Turning.{join_does, nothing_does}
use Rattle.perc_script_line.specs.Script.{Script, fits}
use Rattle.perc_script_line.specs.View.{script_said}
use Rattle.perc_replay.proofs.turn.form_turn.Goals as goal

pub join-requires-clause-newcomer : goal.join-requires-clause-newcomer
join-requires-clause-newcomer c =
    let fit = join_fits c.args.profile c.in-Join.client c.in-Join.server c.in-Join.key (subst (λ (l : Script). fits c.args.profile l ≡ true) (ap script_said c.in-Join.is) c.requires.fits) in
    let client = pair_key c.args.profile c.in-Join.client fit.0 in
    let server = pair_key c.args.profile c.in-Join.server fit.1 in
    let key = key_length_of c.args.profile c.in-Join.key fit.2 in
    record { client = rw c.pair_in.ensures client; server = rw c.pair_in-in-Join.ensures server; key = rw c.of.ensures key }

pub returns-in-Nothing : goal.returns-in-Nothing
returns-in-Nothing c = λ s orderly mirrors. nothing_does s c.args.profile (script_said c.args.said) c.args.text.now.items c.args.conference.now (ap script_said c.in-Nothing.is) mirrors

pub returns-in-Join : goal.returns-in-Join
returns-in-Join c = λ s orderly mirrors.
    join_does s c.args.profile (script_said c.args.said) c.in-Join.name c.in-Join.ssrc c.in-Join.seq c.in-Join.client c.in-Join.server c.in-Join.key
    c.pair_in.result c.pair_in-in-Join.result c.of.result c.join.result c.args.text.now.items c.join.new.text.items c.join.new.self
    (ap script_said c.in-Join.is) c.pair_in.ensures c.pair_in-in-Join.ensures c.of.ensures (c.join.ensures s orderly mirrors)
