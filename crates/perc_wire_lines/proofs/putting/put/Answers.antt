use Rattle.std.proofs.Common.{◌+◌, ◌++◌, length, refl, ap, ◌∙◌}
use Rattle.perc_report_line.specs.Report.{report_text}
use Rattle.perc_run.specs.Hostile.{added}
use Rattle.perc_script_line.specs.declared.reason.Reason.TheVariants.{Limit}
use Rattle.perc_conference_state.proofs.Turning.{does_refused}
use Rattle.perc_wire_lines.specs.Wires.{wire_line}
use Rattle.perc_wire_lines.proofs.Pushing.{added_full, count_full, count_left, puts}
use Rattle.perc_wire_lines.proofs.putting.put.Goals as goal

pub returns-then-is_full : goal.returns-then-is_full
returns-then-is_full c = λ s d mirrors new.
    let line = wire_line c.args.wire.now (length s.datagrams + 1) d.octets in
    does_refused (added s line d) Limit c.args.text.now.items c.args.text.now.items _ (added_full s line d (count_full c.args.conference.now s mirrors c.if-is_full.ensures))

pub returns : goal.returns
returns c = λ s d mirrors new.
    let before = c.args.text.now.items in
    let number = c.next_number.result in
    let room = count_left c.args.conference.now s mirrors c.if-is_full.ensures in
    let line = c.line_of-line.ensures ∙ ap (wire_line c.args.wire.now number) c.deref.ensures.value in
    puts c.args.conference.now _ s d c.args.datagram c.args.wire.now number before c.write.new.out.items mirrors new room (c.next_number.ensures s mirrors)
    (c.in_ok-write.ensures.ok ∙ ap (λ x. before ++ report_text x) line)
    (record { profile = refl; records = refl; issued = refl; members = refl; distributor = refl; keys = refl; datagrams = c.in_ok-push.ensures.items })
