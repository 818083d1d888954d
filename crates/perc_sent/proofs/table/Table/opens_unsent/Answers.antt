use Rattle.std.proofs.Common.{ℕ, [], List, ap, subst, sym, ◌∙◌}
use Rattle.std.specs.Prelude.{is_none}
use Rattle.std.specs.List.{AllByRecursion, list_any}
use Rattle.perc_contexts.specs.Receiving.{Attempt}
use Rattle.perc_incoming.specs.Opening.{AreOpenKeys, open_tries}
use Rattle.perc_incoming.specs.declared.inquiry.OpenKey.{OpenKey}
use Rattle.perc_incoming.proofs.Parts.{front_header, inner_is, original_packet}
use Rattle.perc_outer.specs.Datagram.{original_header}
use Rattle.perc_receiver.specs.Opener.{row_of}
use Rattle.perc_sent.proofs.Keys.{IsOf, tries_of}
use Rattle.perc_sent.proofs.table.Table.opens_unsent.Goals as goal

pub returns : goal.returns
returns c s r o is told ssrc keys =
    let front = front_header o c.args.datagram.now c.args.reached.now told in
    let packet = original_packet o c.args.datagram.now c.args.reached.now c.restore-len.result c.restore-len.new.out _ told (c.restore-len.ensures.len o.header [] front)
    (c.restore-len.ensures.value o.header [] front) in
    let octets = c.octets_at.ensures ∙ inner_is o c.args.datagram.now c.args.reached.now told c.requires.reached.range.inner in
    let all = subst (λ (xs : List OpenKey). AreOpenKeys (open_tries r o) xs) (sym c.as_slice.ensures.value) keys in
    let senders = subst (λ (n : ℕ). AllByRecursion (IsOf n) (open_tries r o)) (sym ssrc) (tries_of r o) in
    c.lacks_row.ensures s (open_tries r o) (original_header o) is all senders packet
    ∙ ap (λ (xs : List ℕ). list_any (λ (a : Attempt). is_none (row_of s.table a.context a.index (original_header o) xs)) (open_tries r o)) octets
