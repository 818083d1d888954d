use Rattle.std.proofs.Common.{◌+◌, length, ap, sym, ◌∙◌, subst, List, ℕ}
use Rattle.perc_report_line.specs.Report.{WireUp}
use Rattle.perc_run.specs.Control.{control_by, rtcp_turn}
use Rattle.perc_run.specs.Hostile.{added}
use Rattle.perc_run.specs.State.{Turn}
use Rattle.perc_script_line.specs.declared.reason.Reason.TheVariants.{Limit, Name}
use Rattle.perc_conference_state.specs.Mirror.{Does}
use Rattle.perc_conference_state.proofs.Changing.{place_within, placed}
use Rattle.perc_conference_state.proofs.Places.{name_of_found}
use Rattle.perc_conference_state.proofs.Turning.{does_refused, does_stopped}
use Rattle.perc_wire_lines.proofs.Controls.{counted, may_seal, mirrors_counted, rtcp_full, rtcp_goes, rtcp_nobody}
use Rattle.perc_wire_lines.proofs.Pushing.{count_full, count_left}
use Rattle.perc_wire_lines.proofs.control.rtcp.Goals as goal

pub returns-in_err-place : goal.returns-in_err-place
returns-in_err-place c = λ s orderly mirrors.
    let none = c.in_err-place.ensures s mirrors in
    does_stopped (rtcp_turn s c.args.name c.args.plain.now) Name c.from_residual.result c.in_err-place.field-0.0 c.args.text.now.items c.args.text.now.items
    c.args.conference.now (rtcp_nobody s c.args.name c.args.plain.now none.0) c.from_residual.ensures.1 none.1

pub returns-then-is_full : goal.returns-then-is_full
returns-then-is_full c = λ s orderly mirrors.
    let found = c.in_ok-place.ensures s mirrors in
    let full = count_full c.args.conference.now s mirrors c.if-is_full.ensures in
    does_refused (rtcp_turn s c.args.name c.args.plain.now) Limit c.args.text.now.items c.args.text.now.items _
    (rtcp_full s c.args.name c.args.plain.now found.0 found.1 full)

pub index_mut-requires : goal.index_mut-requires
index_mut-requires c =
    let running = c.requires.running in
    let found = c.in_ok-place.ensures running.0 running.2 in
    place_within c.args.conference.now running.0 c.in_ok-place.place found.0 running.2 found.2

pub sealed-requires-clause-index : goal.sealed-requires-clause-index
sealed-requires-clause-index c =
    let running = c.requires.running in
    let a = c.index_mut.result.now in
    let found = c.in_ok-place.ensures running.0 running.2 in
    let p = placed c.args.conference.now running.0 c.args.name c.in_ok-place.place a running.2 found c.index_mut.ensures.value in
    may_seal running.0 c.in_ok-place.place p.member a.endpoint running.1 p.at p.mirrors.endpoint

pub returns : goal.returns
returns c = λ s orderly mirrors.
    let name = c.args.name in
    let plain = c.args.plain.now in
    let place = c.in_ok-place.place in
    let a = c.index_mut.result.now in
    let p = placed c.args.conference.now s name place a mirrors (c.in_ok-place.ensures s mirrors) c.index_mut.ensures.value in
    let m = p.member in
    let x = control_by m plain in
    let sealed = c.in_ok-datagram.ensures m.endpoint p.mirrors.endpoint in
    let after = counted s m in
    let held = mirrors_counted c.args.conference.now s name place a c.sealed.new.endpoint orderly mirrors p sealed.stands in
    let does = c.put.ensures after x held sealed.datagram_is in
    let goes = rtcp_goes s name plain m p.found (count_left c.args.conference.now s mirrors c.if-is_full.ensures) sealed.datagram_is.few in
    let line = ap (λ (n : List ℕ). added after (WireUp (length s.datagrams + 1) n x.octets) x) (name_of_found s name m p.found) in
    subst (λ (t : Turn). Does t c.put.result c.args.text.now.items c.put.new.text.items c.put.new.conference) (sym (goes ∙ line)) does
