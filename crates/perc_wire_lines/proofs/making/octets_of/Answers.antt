use Rattle.std.proofs.Common.{◌≡◌, ◌+◌, ◌<◌, ◌≤◌, List, length, ltb-true, ltb-false, slice_get, refl, sym, ap, ◌∙◌, subst, arith}
use Rattle.std.proofs.lemmas.Option.{slice_get_past, slice_get_read}
use Rattle.perc_member.specs.declared.datagram.Datagram.{Datagram}
use Rattle.perc_wire_lines.specs.Made.{IsDatagramOf}
use Rattle.perc_wire_lines.proofs.Made.{datagram_here, datagram_nowhere}
use Rattle.perc_wire_lines.proofs.making.octets_of.Goals as goal

pub returns-in-Some-get-clause-found : goal.returns-in-Some-get-clause-found
returns-in-Some-get-clause-found c = λ s mirrors.
    let place = c.in-Some.place in
    let a = c.in-Some-get.datagram.now in
    let found = c.in-Some-get.ensures.lookup in
    let within : place < length c.deref.result.now = ltb-true place (length c.deref.result.now) (sym found.0) in
    let read = ap (λ (l : List Datagram). slice_get l place) (sym c.deref.ensures.value) ∙ slice_get_read c.deref.result.now (length c.deref.result.now) place a refl within found.1 in
    let counted = c.in-Some.ensures in
    let number : c.args.number ≡ place + 1 = omega (arith, counted.0, counted.1) in
    subst (IsDatagramOf s c.args.number) (sym c.deref-in-Some-get.ensures.value) (datagram_here c.args.conference.now s c.args.number place a mirrors number read)

pub returns-in-None-clause-none : goal.returns-in-None-clause-none
returns-in-None-clause-none c = λ s mirrors.
    let place = c.in-Some.place in
    let past : length c.deref.result.now ≤ place = ltb-false place (length c.deref.result.now) (sym c.in-None.ensures.lookup.0) in
    let none = ap (λ (l : List Datagram). slice_get l place) (sym c.deref.ensures.value) ∙ slice_get_past c.deref.result.now place past in
    let counted = c.in-Some.ensures in
    let number : c.args.number ≡ place + 1 = omega (arith, counted.0, counted.1) in
    (datagram_nowhere c.args.conference.now s c.args.number place mirrors number none, refl)
