use Rattle.std.proofs.Common.{◌≡◌, ◌<◌, ◌≤◌, ◌+◌, ℕ, List, length, Some, None, slice_get, slice_index_or, sym, ap, subst, ◌∙◌, refl, arith}
use Rattle.std.specs.Int.{from_bool}
use Rattle.std.proofs.lemmas.Option.{slice_get-get_or}
use Rattle.std.proofs.lemmas.Result.{err_from_is_err_and}
use Rattle.perc_ohb.specs.Rewriting.{rewrite_of}
use Rattle.perc_forwarder.specs.declared.distributor.Taking.{Taking}
use Rattle.perc_run.specs.Forwarding.{reported_takings}
use Rattle.perc_forward_line.proofs.Looping.{failed, from_bool_few, is_at, none_is, taking_at, taking_few, taking_within, takings_all, takings_begin, takings_now, takings_step}
use Rattle.perc_forward_line.proofs.outputs.Telling.takings.Goals as goal

pub loop-taking-init : goal.loop-taking-init
loop-taking-init c = takings_begin c.args.self.now c.args.datagrams.now.items c.args.text.now.items

pub taking-requires-clause-telling : goal.taking-requires-clause-telling
taking-requires-clause-telling c =
    (takings_now c.args.self.now c.loop-taking.taking-index c.loop-taking.place c.args.datagrams.now.items c.loop-taking.datagrams.items c.args.text.now.items c.loop-taking.text.items c.loop-taking.told c.requires.telling c.loop-taking.invariant).can

pub taking-requires-clause-place : goal.taking-requires-clause-place
taking-requires-clause-place c =
    let k : Taking = slice_index_or c.deref-taking-items.result.now c.loop-taking.taking-index (record { number = 0; fault = None }) in
    let at = ap (λ (xs : List Taking). slice_get xs c.loop-taking.taking-index) (sym c.deref-taking-items.ensures.value) ∙ slice_get-get_or c.deref-taking-items.result.now c.loop-taking.taking-index (record { number = 0; fault = None }) c.loop-taking-test.true in
    taking_within c.args.self.now c.loop-taking.taking-index c.loop-taking.place k c.args.datagrams.now.items c.loop-taking.datagrams.items c.args.text.now.items c.loop-taking.text.items c.loop-taking.told
    c.args.self.now.distributor.now.batch.len c.requires.telling c.loop-taking.invariant at c.args.self.now.distributor.now.batch.ok.0

pub taking-requires-clause-room : goal.taking-requires-clause-room
taking-requires-clause-room c =
    let now = takings_now c.args.self.now c.loop-taking.taking-index c.loop-taking.place c.args.datagrams.now.items c.loop-taking.datagrams.items c.args.text.now.items c.loop-taking.text.items c.loop-taking.told c.requires.telling c.loop-taking.invariant in
    let size = ap (λ (xs : List Taking). length xs) c.deref-taking-items.ensures.value in
    omega (arith, now.room, now.count, size, c.loop-taking-test.true, c.requires.room, c.args.datagrams.now.ok.0, c.loop-taking.datagrams.ok.0)

pub returns-in_err-one : goal.returns-in_err-one
returns-in_err-one c = λ members taken sent made is.
    let k : Taking = slice_index_or c.deref-taking-items.result.now c.loop-taking.taking-index (record { number = 0; fault = None }) in
    let at = ap (λ (xs : List Taking). slice_get xs c.loop-taking.taking-index) (sym c.deref-taking-items.ensures.value) ∙ slice_get-get_or c.deref-taking-items.result.now c.loop-taking.taking-index (record { number = 0; fault = None }) c.loop-taking-test.true in
    let u = taking_at c.args.self.now members taken sent c.loop-taking.taking-index k is at in
    let here = is_at taken c.loop-taking.taking-index c.loop-taking.place u.taking u.there (c.loop-taking.invariant.behind members taken sent is) in
    let p = err_from_is_err_and c.from_residual.result c.from_residual.ensures.1 in
    failed (reported_takings members (rewrite_of c.args.self.now.change.now) sent 0 made taken) made c.args.datagrams.now.items c.taking.new.datagrams.items c.from_residual.result p.0
    c.args.text.now.items c.taking.new.text.items p.1 (p.2 ∙ c.in_err-one.ensures members taken sent u.taking made is u.is here)

pub and-told-requires-clause-datagrams : goal.and-told-requires-clause-datagrams
and-told-requires-clause-datagrams c =
    let k : Taking = slice_index_or c.deref-taking-items.result.now c.loop-taking.taking-index (record { number = 0; fault = None }) in
    let at = ap (λ (xs : List Taking). slice_get xs c.loop-taking.taking-index) (sym c.deref-taking-items.ensures.value) ∙ slice_get-get_or c.deref-taking-items.result.now c.loop-taking.taking-index (record { number = 0; fault = None }) c.loop-taking-test.true in
    let now = takings_now c.args.self.now c.loop-taking.taking-index c.loop-taking.place c.args.datagrams.now.items c.loop-taking.datagrams.items c.args.text.now.items c.loop-taking.text.items c.loop-taking.told c.requires.telling c.loop-taking.invariant in
    let one = taking_few c.args.self.now c.loop-taking.taking-index c.loop-taking.place k c.args.datagrams.now.items c.loop-taking.datagrams.items c.taking.new.datagrams.items c.args.text.now.items c.loop-taking.text.items c.taking.new.text.items
    c.loop-taking.told c.in_ok-one.one c.requires.telling c.loop-taking.invariant at c.in_ok-one.ensures in
    omega (arith, now.few.datagrams, one.datagrams, now.count, ap (λ (xs : List Taking). length xs) c.deref-taking-items.ensures.value, c.loop-taking-test.true)

pub and-told-requires-clause-accepted : goal.and-told-requires-clause-accepted
and-told-requires-clause-accepted c =
    let k : Taking = slice_index_or c.deref-taking-items.result.now c.loop-taking.taking-index (record { number = 0; fault = None }) in
    let at = ap (λ (xs : List Taking). slice_get xs c.loop-taking.taking-index) (sym c.deref-taking-items.ensures.value) ∙ slice_get-get_or c.deref-taking-items.result.now c.loop-taking.taking-index (record { number = 0; fault = None }) c.loop-taking-test.true in
    let now = takings_now c.args.self.now c.loop-taking.taking-index c.loop-taking.place c.args.datagrams.now.items c.loop-taking.datagrams.items c.args.text.now.items c.loop-taking.text.items c.loop-taking.told c.requires.telling c.loop-taking.invariant in
    let one = taking_few c.args.self.now c.loop-taking.taking-index c.loop-taking.place k c.args.datagrams.now.items c.loop-taking.datagrams.items c.taking.new.datagrams.items c.args.text.now.items c.loop-taking.text.items c.taking.new.text.items
    c.loop-taking.told c.in_ok-one.one c.requires.telling c.loop-taking.invariant at c.in_ok-one.ensures in
    omega (arith, now.few.accepted, one.accepted, now.count, ap (λ (xs : List Taking). length xs) c.deref-taking-items.ensures.value, c.loop-taking-test.true)

pub and-told-requires-clause-refused : goal.and-told-requires-clause-refused
and-told-requires-clause-refused c =
    let k : Taking = slice_index_or c.deref-taking-items.result.now c.loop-taking.taking-index (record { number = 0; fault = None }) in
    let at = ap (λ (xs : List Taking). slice_get xs c.loop-taking.taking-index) (sym c.deref-taking-items.ensures.value) ∙ slice_get-get_or c.deref-taking-items.result.now c.loop-taking.taking-index (record { number = 0; fault = None }) c.loop-taking-test.true in
    let now = takings_now c.args.self.now c.loop-taking.taking-index c.loop-taking.place c.args.datagrams.now.items c.loop-taking.datagrams.items c.args.text.now.items c.loop-taking.text.items c.loop-taking.told c.requires.telling c.loop-taking.invariant in
    let one = taking_few c.args.self.now c.loop-taking.taking-index c.loop-taking.place k c.args.datagrams.now.items c.loop-taking.datagrams.items c.taking.new.datagrams.items c.args.text.now.items c.loop-taking.text.items c.taking.new.text.items
    c.loop-taking.told c.in_ok-one.one c.requires.telling c.loop-taking.invariant at c.in_ok-one.ensures in
    omega (arith, now.few.refused, one.refused, now.count, ap (λ (xs : List Taking). length xs) c.deref-taking-items.ensures.value, c.loop-taking-test.true)

pub overflow_add-place : goal.overflow_add-place
overflow_add-place c =
    let now = takings_now c.args.self.now c.loop-taking.taking-index c.loop-taking.place c.args.datagrams.now.items c.loop-taking.datagrams.items c.args.text.now.items c.loop-taking.text.items c.loop-taking.told c.requires.telling c.loop-taking.invariant in
    omega (arith, now.place_few, now.count, ap (λ (xs : List Taking). length xs) c.deref-taking-items.ensures.value, c.loop-taking-test.true, c.from-place.ensures, from_bool_few c.is_none.result)

pub loop-taking-preserved : goal.loop-taking-preserved
loop-taking-preserved c =
    let k : Taking = slice_index_or c.deref-taking-items.result.now c.loop-taking.taking-index (record { number = 0; fault = None }) in
    let at = ap (λ (xs : List Taking). slice_get xs c.loop-taking.taking-index) (sym c.deref-taking-items.ensures.value) ∙ slice_get-get_or c.deref-taking-items.result.now c.loop-taking.taking-index (record { number = 0; fault = None }) c.loop-taking-test.true in
    takings_step c.args.self.now c.loop-taking.taking-index c.loop-taking.place (c.loop-taking.place + c.from-place.result) k c.args.datagrams.now.items c.loop-taking.datagrams.items c.taking.new.datagrams.items c.args.text.now.items c.loop-taking.text.items c.taking.new.text.items
    c.loop-taking.told c.in_ok-one.one c.and-told.result c.loop-taking.invariant at c.in_ok-one.ensures c.and-told.ensures
    (ap (λ (n : ℕ). c.loop-taking.place + n) (c.from-place.ensures ∙ ap from_bool (none_is k.fault c.is_none.result c.is_none.ensures)))

pub returns : goal.returns
returns c = λ members taken sent made is mirrors.
    let size = ap (λ (xs : List Taking). length xs) c.deref-taking-items.ensures.value in
    takings_all c.args.self.now c.loop-taking.taking-index c.loop-taking.place c.args.datagrams.now.items c.loop-taking.datagrams.items c.args.text.now.items c.loop-taking.text.items c.loop-taking.told (omega arith) c.loop-taking.invariant
    members taken sent made is mirrors
