use Rattle.std.proofs.Common.{sym, subst}
use Rattle.perc_ohb.specs.Rewriting.{rewrite_of}
use Rattle.perc_script_line.specs.View.{changes_said}
use Rattle.perc_script_line.specs.declared.reason.Reason.TheVariants as reason
use Rattle.perc_run.specs.Forwarding.{rewrite_by}
use Rattle.perc_run.specs.Hostile.{reseal_turn}
use Rattle.perc_run.specs.State.{Turn}
use Rattle.perc_conference_state.specs.Mirror.{Does}
use Rattle.perc_conference_state.proofs.Changing.{place_within, wire_at}
use Rattle.perc_conference_state.proofs.Turning.{does_stopped}
use Rattle.perc_reseal_line.proofs.Turning.{made_for, no_datagram, nobody_named, puts, stopped}
use Rattle.perc_reseal_line.proofs.resealing.reseal.Goals as goal

pub returns-in_err-place : goal.returns-in_err-place
returns-in_err-place c = λ s orderly mirrors.
    let r = c.args.resealing.now in
    let changes = changes_said c.args.changes.now in
    let none = c.in_err-place.ensures s mirrors in
    does_stopped (reseal_turn s r.datagram r.name r.roc changes) reason.Name c.from_residual.result c.in_err-place.field-0.0 c.args.text.now.items c.args.text.now.items
    c.args.conference.now (nobody_named s r.datagram r.name r.roc changes none.0) c.from_residual.ensures.1 none.1

pub returns-in_err-at : goal.returns-in_err-at
returns-in_err-at c = λ s orderly mirrors.
    let r = c.args.resealing.now in
    let changes = changes_said c.args.changes.now in
    let found = c.in_ok-place.ensures s mirrors in
    let none = c.in_err-at.ensures s mirrors in
    does_stopped (reseal_turn s r.datagram r.name r.roc changes) reason.Datagram c.from_residual-in_err-at.result c.in_err-at.field-0.0 c.args.text.now.items c.args.text.now.items
    c.args.conference.now (no_datagram s r.datagram r.name r.roc changes found.0 found.1 none.0) c.from_residual-in_err-at.ensures.1 none.1

pub index-requires : goal.index-requires
index-requires c =
    let s = c.requires.running.0 in
    let mirrors = c.requires.running.2 in
    let found = c.in_ok-place.ensures s mirrors in
    place_within c.args.conference.now s c.in_ok-place.place found.0 mirrors found.2

pub index-requires-2 : goal.index-requires-2
index-requires-2 c =
    let s = c.requires.running.0 in
    let mirrors = c.requires.running.2 in
    (wire_at c.args.conference.now s c.args.resealing.now.datagram c.in_ok-at.at mirrors (c.in_ok-at.ensures s mirrors)).within

pub seal_datagram-requires-clause-datagram : goal.seal_datagram-requires-clause-datagram
seal_datagram-requires-clause-datagram c =
    let s = c.requires.running.0 in
    let mirrors = c.requires.running.2 in
    let wire = wire_at c.args.conference.now s c.args.resealing.now.datagram c.in_ok-at.at mirrors (c.in_ok-at.ensures s mirrors) in
    (wire.datagram, wire.mirrors c.index-2.result.now c.index-2.ensures)

pub returns-in_err-resealed : goal.returns-in_err-resealed
returns-in_err-resealed c = λ s orderly mirrors.
    let r = c.args.resealing.now in
    let changes = changes_said c.args.changes.now in
    let it = made_for c.args.conference.now s r.datagram r.name r.roc changes c.in_ok-place.place c.in_ok-at.at c.index.result.now c.index-2.result.now c.keys_to-keys.result
    (rewrite_of c.change_in-change.result) _ mirrors (c.in_ok-place.ensures s mirrors) (c.in_ok-at.ensures s mirrors) c.index.ensures c.index-2.ensures c.keys_to-keys.ensures c.change_in-change.ensures.value
    c.in_err-resealed.ensures in
    stopped s it.member r.roc (rewrite_by changes) c.args.text.now.items c.args.conference.now (reseal_turn s r.datagram r.name r.roc changes) it.datagram.unsealed
    c.from_residual-in_err-resealed.result c.in_err-resealed.field-0.0 c.args.text.now.items it.turn c.from_residual-in_err-resealed.ensures.1 it.is

pub returns : goal.returns
returns c = λ s orderly mirrors.
    let r = c.args.resealing.now in
    let changes = changes_said c.args.changes.now in
    let it = made_for c.args.conference.now s r.datagram r.name r.roc changes c.in_ok-place.place c.in_ok-at.at c.index.result.now c.index-2.result.now c.keys_to-keys.result
    (rewrite_of c.change_in-change.result) _ mirrors (c.in_ok-place.ensures s mirrors) (c.in_ok-at.ensures s mirrors) c.index.ensures c.index-2.ensures c.keys_to-keys.ensures c.change_in-change.ensures.value
    c.in_ok-resealed.ensures in
    subst (λ (t : Turn). Does t c.put.result c.args.text.now.items c.put.new.text.items c.put.new.conference) (sym it.turn)
    (puts s it.member r.roc (rewrite_by changes) c.args.text.now.items c.put.new.conference it.datagram.unsealed r.name c.in_ok-resealed.resealed c.put.result c.put.new.text.items it.named it.is
    (λ made is_made. c.put.ensures s made mirrors is_made))
