use Rattle.std.proofs.Common.{◌≡◌, ℕ, List, sym, subst, ◌∙◌}
use Rattle.std.specs.Prelude.{map}
use Rattle.perc_ekt.specs.Field.{Field}
use Rattle.perc_receiver.specs.Table.{secret_in}
use Rattle.perc_receiver.specs.Opener.{by_cipher}
use Rattle.perc_receiver.specs.Receiver.{carried_by}
use Rattle.perc_incoming.specs.Asking.{IsCarriedBy, carried_under}
use Rattle.perc_incoming.proofs.Unwrapping.{full_field, full_part, full_rising, full_within}
use Rattle.perc_incoming.proofs.carried.carried_key.Goals as goal

pub octets_at-requires-clause-rising : goal.octets_at-requires-clause-rising
octets_at-requires-clause-rising c =
    let t = c.requires.told in
    let full = full_field t.0 t.1 c.in-Full.spi c.in-Full.epoch c.in-Full.cipher (sym c.in-Full.is ∙ t.2) in
    full_rising t.0 t.1 c.in-Full.spi _ _ c.args.datagram.now full t.3

pub octets_at-requires-clause-within : goal.octets_at-requires-clause-within
octets_at-requires-clause-within c =
    let t = c.requires.told in
    let full = full_field t.0 t.1 c.in-Full.spi c.in-Full.epoch c.in-Full.cipher (sym c.in-Full.is ∙ t.2) in
    full_within t.0 t.1 c.in-Full.spi _ _ c.args.datagram.now full t.3

pub returns-in-Full-clause-answer : goal.returns-in-Full-clause-answer
returns-in-Full-clause-answer c = λ f n is at.
    let full = full_field f n c.in-Full.spi c.in-Full.epoch c.in-Full.cipher (sym c.in-Full.is ∙ is) in
    let cipher : c.octets_at.result.now ≡ full.cipher = c.octets_at.ensures ∙ full_part f n c.in-Full.spi _ _ c.args.datagram.now full at in
    let secrets = map secret_in c.args.records.now in
    let answer = subst (λ (x : List ℕ). IsCarriedBy (carried_under secrets c.args.ssrc c.in-Full.spi x) c.unwrap_carried.result) cipher c.unwrap_carried.ensures.answer in
    subst (λ (g : Field). IsCarriedBy (carried_by (by_cipher secrets) secrets c.args.ssrc g) c.unwrap_carried.result) (sym full.is) answer
