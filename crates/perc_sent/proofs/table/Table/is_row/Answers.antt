use Rattle.std.proofs.Common.{◌≡◌, ℕ, ap, ◌∙◌, sym, arith, Bool, false, true, List, take}
use Rattle.perc_contexts.specs.Receiving.{Attempt}
use Rattle.perc_incoming.specs.declared.inquiry.OpenKey.{OpenKey}
use Rattle.perc_incoming.specs.Opening.{IsOpenKey}
use Rattle.perc_member.specs.Taken.{sent_under}
use Rattle.perc_member.specs.declared.member.Member as code_member
use Rattle.perc_sent.proofs.Rows.{IsAsked, number_within, row_by_packet, row_of_none, row_unsent, sent_numbered}
use Rattle.perc_sent.proofs.table.Table.is_row.Goals as goal

-- what a key asks for
asked_of : (a : Attempt) (ssrc : ℕ) (key : OpenKey) → a.context.ssrc ≡ ssrc → IsOpenKey a key → IsAsked a ssrc key.spi (take key.len key.key) key.index
asked_of a ssrc key same is = record { ssrc_is = same; spi_is = sym is.spi; key_is = sym is.key; index_is = sym is.index }

-- the answer, of the octets that were taken of the key
by_octets : (m : code_member.Member) (spi index : ℕ) (octets key : List ℕ) (sent : Bool) (b : Bool) → octets ≡ key → sent ≡ sent_under m spi octets index → sent ≡ b
    → sent_under m spi key index ≡ b
by_octets m spi index octets key sent b same is e = ap (λ (xs : List ℕ). sent_under m spi xs index) (sym same) ∙ sym is ∙ e

pub returns-in_default : goal.returns-in_default
returns-in_default c s a h is packet same key =
    row_of_none c.args.self.now s a h c.args.question.now.octets.now c.args.question.now.ssrc is same (sym c.in_default.ensures)

pub returns-then-not-has_sent : goal.returns-then-not-has_sent
returns-then-not-has_sent c s a h is packet same key =
    let k : OpenKey = c.args.key.now in
    row_unsent c.args.self.now s a h c.args.question.now.octets.now c.args.question.now.ssrc k.spi (take k.len k.key) k.index c.in-Some.member.now is
    (asked_of a c.args.question.now.ssrc k same key) (sym c.in-Some.ensures)
    (by_octets c.in-Some.member.now k.spi k.index c.octets_of.result.now (take k.len k.key) c.has_sent.result false c.octets_of.ensures c.has_sent.ensures c.if-not-has_sent.true)

pub is_packet-requires-clause-above : goal.is_packet-requires-clause-above
is_packet-requires-clause-above c =
    let k : OpenKey = c.args.key.now in
    (number_within c.args.self.now c.requires.0 c.args.question.now.ssrc k.spi (take k.len k.key) k.index c.in-Some-number_of.number c.in-Some.member.now c.requires.1
    (sym c.in-Some.ensures)
    (by_octets c.in-Some.member.now k.spi k.index c.octets_of.result.now (take k.len k.key) c.has_sent.result true c.octets_of.ensures c.has_sent.ensures c.if-not-has_sent.false)
    (sym c.in-Some-number_of.ensures)).0

pub is_packet-requires-clause-within : goal.is_packet-requires-clause-within
is_packet-requires-clause-within c =
    let k : OpenKey = c.args.key.now in
    let low =
    (number_within c.args.self.now c.requires.0 c.args.question.now.ssrc k.spi (take k.len k.key) k.index c.in-Some-number_of.number c.in-Some.member.now c.requires.1
    (sym c.in-Some.ensures)
    (by_octets c.in-Some.member.now k.spi k.index c.octets_of.result.now (take k.len k.key) c.has_sent.result true c.octets_of.ensures c.has_sent.ensures c.if-not-has_sent.false)
    (sym c.in-Some-number_of.ensures)).1 in
    let count = c.requires.1.datagrams.count in
    omega arith

pub returns-in-Some-number_of : goal.returns-in-Some-number_of
returns-in-Some-number_of c s a h is packet same key =
    let k : OpenKey = c.args.key.now in
    c.is_packet.ensures s h is packet
    ∙ row_by_packet c.args.self.now s a h c.args.question.now.octets.now c.args.question.now.ssrc k.spi (take k.len k.key) k.index c.in-Some-number_of.number
    c.in-Some.member.now is (asked_of a c.args.question.now.ssrc k same key) (sym c.in-Some.ensures)
    (by_octets c.in-Some.member.now k.spi k.index c.octets_of.result.now (take k.len k.key) c.has_sent.result true c.octets_of.ensures c.has_sent.ensures c.if-not-has_sent.false)
    (sym c.in-Some-number_of.ensures)

pub returns-in-None : goal.returns-in-None
returns-in-None c s a h is packet same key =
    let k : OpenKey = c.args.key.now in
    absurd (sent_numbered c.args.self.now s c.args.question.now.ssrc k.spi (take k.len k.key) k.index c.in-Some.member.now is (sym c.in-Some.ensures)
    (by_octets c.in-Some.member.now k.spi k.index c.octets_of.result.now (take k.len k.key) c.has_sent.result true c.octets_of.ensures c.has_sent.ensures c.if-not-has_sent.false)
    (sym c.in-None.ensures))
