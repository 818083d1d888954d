use Rattle.std.proofs.Common.{◌≡◌, ◌<◌, ◌≤◌, length, arith, ◌∙◌, sym}
use Rattle.std.proofs.lemmas.Result.{err_from_is_err_and}
use Rattle.perc_ohb.specs.Rewriting.{rewrite_of}
use Rattle.perc_run.specs.Forwarding.{reported_outputs}
use Rattle.perc_forward_line.specs.Telling.{outputs_at}
use Rattle.perc_forward_line.proofs.Looping.{OutputsNow, failed, one_few, outputs_all, outputs_begin, outputs_count, outputs_now, outputs_step}
use Rattle.perc_forward_line.proofs.outputs.Telling.outputs.Goals as goal

pub loop-i-init : goal.loop-i-init
loop-i-init c = outputs_begin c.args.self.now c.args.number c.args.place c.args.datagrams.now.items c.args.text.now.items

pub output_at-requires-clause-telling : goal.output_at-requires-clause-telling
output_at-requires-clause-telling c =
    let within : c.args.place < length c.args.self.now.distributor.now.batch.items = omega (arith, c.requires.place, c.args.self.now.distributor.now.batch.ok.0) in
    (outputs_now c.args.self.now c.args.number c.args.place c.loop-i.i c.args.datagrams.now.items c.loop-i.datagrams.items c.args.text.now.items c.loop-i.text.items c.loop-i.told c.requires.telling within c.loop-i.invariant).can

pub output_at-requires-clause-room : goal.output_at-requires-clause-room
output_at-requires-clause-room c =
    let within : c.args.place < length c.args.self.now.distributor.now.batch.items = omega (arith, c.requires.place, c.args.self.now.distributor.now.batch.ok.0) in
    let now = outputs_now c.args.self.now c.args.number c.args.place c.loop-i.i c.args.datagrams.now.items c.loop-i.datagrams.items c.args.text.now.items c.loop-i.text.items c.loop-i.told c.requires.telling within c.loop-i.invariant in
    omega (arith, now.room, outputs_count c.args.self.now c.args.datagrams.now.items c.requires.telling, c.loop-i-test.true, c.len-i-end.ensures, c.requires.room, c.args.datagrams.now.ok.0, c.loop-i.datagrams.ok.0)

pub returns-in_err-one : goal.returns-in_err-one
returns-in_err-one c = λ members taken sent packet made is there.
    let p = err_from_is_err_and c.from_residual.result c.from_residual.ensures.1 in
    failed (reported_outputs members (rewrite_of c.args.self.now.change.now) c.args.number packet made (outputs_at c.args.place sent)) made c.args.datagrams.now.items c.output_at.new.datagrams.items c.from_residual.result p.0
    c.args.text.now.items c.output_at.new.text.items p.1 (p.2 ∙ c.in_err-one.ensures members taken sent packet made is there)

pub and-told-requires-clause-datagrams : goal.and-told-requires-clause-datagrams
and-told-requires-clause-datagrams c =
    let within : c.args.place < length c.args.self.now.distributor.now.batch.items = omega (arith, c.requires.place, c.args.self.now.distributor.now.batch.ok.0) in
    let now = outputs_now c.args.self.now c.args.number c.args.place c.loop-i.i c.args.datagrams.now.items c.loop-i.datagrams.items c.args.text.now.items c.loop-i.text.items c.loop-i.told c.requires.telling within c.loop-i.invariant in
    let one = one_few c.args.self.now c.args.number c.args.place c.at.result.now c.loop-i.i c.loop-i.datagrams.items c.output_at.new.datagrams.items c.loop-i.text.items c.output_at.new.text.items c.in_ok-one.one now.can within c.in_ok-one.ensures in
    omega (arith, now.few.datagrams, one.datagrams, outputs_count c.args.self.now c.args.datagrams.now.items c.requires.telling, c.loop-i-test.true, c.len-i-end.ensures)

pub and-told-requires-clause-accepted : goal.and-told-requires-clause-accepted
and-told-requires-clause-accepted c =
    let within : c.args.place < length c.args.self.now.distributor.now.batch.items = omega (arith, c.requires.place, c.args.self.now.distributor.now.batch.ok.0) in
    let now = outputs_now c.args.self.now c.args.number c.args.place c.loop-i.i c.args.datagrams.now.items c.loop-i.datagrams.items c.args.text.now.items c.loop-i.text.items c.loop-i.told c.requires.telling within c.loop-i.invariant in
    let one = one_few c.args.self.now c.args.number c.args.place c.at.result.now c.loop-i.i c.loop-i.datagrams.items c.output_at.new.datagrams.items c.loop-i.text.items c.output_at.new.text.items c.in_ok-one.one now.can within c.in_ok-one.ensures in
    omega (arith, now.few.accepted, one.accepted, outputs_count c.args.self.now c.args.datagrams.now.items c.requires.telling, c.loop-i-test.true, c.len-i-end.ensures)

pub and-told-requires-clause-refused : goal.and-told-requires-clause-refused
and-told-requires-clause-refused c =
    let within : c.args.place < length c.args.self.now.distributor.now.batch.items = omega (arith, c.requires.place, c.args.self.now.distributor.now.batch.ok.0) in
    let now = outputs_now c.args.self.now c.args.number c.args.place c.loop-i.i c.args.datagrams.now.items c.loop-i.datagrams.items c.args.text.now.items c.loop-i.text.items c.loop-i.told c.requires.telling within c.loop-i.invariant in
    let one = one_few c.args.self.now c.args.number c.args.place c.at.result.now c.loop-i.i c.loop-i.datagrams.items c.output_at.new.datagrams.items c.loop-i.text.items c.output_at.new.text.items c.in_ok-one.one now.can within c.in_ok-one.ensures in
    omega (arith, now.few.refused, one.refused, outputs_count c.args.self.now c.args.datagrams.now.items c.requires.telling, c.loop-i-test.true, c.len-i-end.ensures)

pub loop-i-preserved : goal.loop-i-preserved
loop-i-preserved c =
    outputs_step c.args.self.now c.args.number c.args.place c.loop-i.i c.at.result.now c.args.datagrams.now.items c.loop-i.datagrams.items c.output_at.new.datagrams.items c.args.text.now.items c.loop-i.text.items
    c.output_at.new.text.items c.loop-i.told c.in_ok-one.one c.and-told.result c.loop-i.invariant c.at.ensures.value c.in_ok-one.ensures c.and-told.ensures

pub returns : goal.returns
returns c = λ members taken sent packet made is there mirrors.
    outputs_all c.args.self.now c.args.number c.args.place c.loop-i.i c.args.datagrams.now.items c.loop-i.datagrams.items c.args.text.now.items c.loop-i.text.items c.loop-i.told (omega arith) c.loop-i.invariant
    members taken sent packet made is there mirrors
