use Rattle.std.proofs.Common.{◌≡◌, ◌-◌, ◌≤◌, ◌<◌, List, ℕ, Some, length, slice_get, slice_index_or, sym, ap, ◌∙◌, arith}
use Rattle.std.proofs.lemmas.Option.{slice_get-get_or}
use Rattle.perc_forward_line.proofs.Taking.{number_at, number_within, takes_all, takes_begin, takes_step}
use Rattle.perc_forward_line.proofs.forwarding.take_each.Goals as goal

pub loop-number-init : goal.loop-number-init
loop-number-init c = takes_begin c.args.distributor.now c.begin.new.self c.args.datagrams.now c.args.from.now c.args.numbers.now c.begin.ensures.stays c.begin.ensures.none

pub overflow_sub-datagram : goal.overflow_sub-datagram
overflow_sub-datagram c =
    let n = slice_index_or c.args.numbers.now c.loop-number.number-index 0 in
    let at : slice_get c.args.numbers.now c.loop-number.number-index ≡ Some n = slice_get-get_or c.args.numbers.now c.loop-number.number-index 0 c.loop-number-test.true in
    omega (arith, (number_within c.args.datagrams.now c.requires.0 c.args.numbers.now c.loop-number.number-index n c.requires.1 c.requires.2 at).0)

pub bounds-datagrams-number : goal.bounds-datagrams-number
bounds-datagrams-number c =
    let n = slice_index_or c.args.numbers.now c.loop-number.number-index 0 in
    let at : slice_get c.args.numbers.now c.loop-number.number-index ≡ Some n = slice_get-get_or c.args.numbers.now c.loop-number.number-index 0 c.loop-number-test.true in
    (number_within c.args.datagrams.now c.requires.0 c.args.numbers.now c.loop-number.number-index n c.requires.1 c.requires.2 at).1

pub take-requires : goal.take-requires
take-requires c =
    let n = slice_index_or c.args.numbers.now c.loop-number.number-index 0 in
    let at : slice_get c.args.numbers.now c.loop-number.number-index ≡ Some n = slice_get-get_or c.args.numbers.now c.loop-number.number-index 0 c.loop-number-test.true in
    let d = number_at c.args.datagrams.now c.requires.0 c.args.numbers.now c.loop-number.number-index n c.index-datagrams-number.result c.requires.1 c.requires.2 at c.index-datagrams-number.is in
    omega (arith, d.mirrors.few, ap (λ (xs : List ℕ). length xs) (c.deref.ensures.value ∙ d.mirrors.octets))

pub loop-number-preserved : goal.loop-number-preserved
loop-number-preserved c =
    let n = slice_index_or c.args.numbers.now c.loop-number.number-index 0 in
    let at : slice_get c.args.numbers.now c.loop-number.number-index ≡ Some n = slice_get-get_or c.args.numbers.now c.loop-number.number-index 0 c.loop-number-test.true in
    takes_step c.args.distributor.now c.loop-number.distributor c.take.new.self c.args.datagrams.now c.args.from.now c.args.numbers.now c.loop-number.number-index n c.index-datagrams-number.result c.deref.result.now c.loop-number.invariant
    at c.index-datagrams-number.is c.deref.ensures.value c.in_ok-take.ensures

pub returns : goal.returns
returns c = λ s mirrors all there.
    takes_all c.args.distributor.now c.loop-number.distributor c.args.datagrams.now c.args.from.now c.args.numbers.now c.loop-number.number-index c.loop-number.invariant c.loop-number-test.false s mirrors all there
