use Rattle.std.proofs.Common.{ℕ, refl, arith}
use Rattle.std.proofs.lemmas.List.{length-drop, length-take}
use Rattle.perc_ohb.specs.Rewriting.{restored}
use Rattle.perc_double.proofs.CallerLaws.{reads_restored}
use Rattle.perc_format_tests.proofs.double.open_inner.Goals as goal

pub inner_unseal-requires-clause-reads : goal.inner_unseal-requires-clause-reads
inner_unseal-requires-clause-reads c =
    let read = c.in-Ok.ensures.ok in
    let ends = c.in-Ok-read_end.ensures.ok in
    let ohb = c.in-Ok-read_end.ohb in
    let len = c.restore-cut.ensures.len read.0 read.1 read.2 in
    let value = c.restore-cut.ensures.value read.0 read.1 read.2 in
    (restored read.0 ohb, reads_restored read.0 ohb read.1 c.args.packet.now _ _ c.restore-cut.result read.2 ends.1.block len value, refl)

pub overflow_add-result : goal.overflow_add-result
overflow_add-result c =
    let read = c.in-Ok.ensures.ok in
    let ends = c.in-Ok-read_end.ensures.ok in
    let ohb = c.in-Ok-read_end.ohb in
    let len = c.restore-cut.ensures.len read.0 read.1 read.2 in
    let value = c.restore-cut.ensures.value read.0 read.1 read.2 in
    let is = reads_restored read.0 ohb read.1 c.args.packet.now _ _ c.restore-cut.result read.2 ends.1.block len value in
    let opened = c.in-Ok-inner_unseal.ensures.opened (restored read.0 ohb) is in
    omega (arith, opened.0, length-take {A = ℕ}, length-drop {A = ℕ})
