use Rattle.std.proofs.Common.{◌≡◌, ◌+◌, ◌-◌, [], ◌∷◌, length, drop, Ok, refl, sym, ap, subst, ◌∙◌, arith, length-append}
use Rattle.std.proofs.lemmas.List.Elements.{All-drop, All-push}
use Rattle.std.specs.List.{All}
use Rattle.perc_base.specs.Profile.{key_length}
use Rattle.perc_contexts.specs.Receiving.{spi_answer}
use Rattle.perc_receiver.specs.Table.{secret_in}
use Rattle.perc_receiver.specs.Receiver.{granted, live_of, receiving}
use Rattle.perc_incoming.specs.Kept.{IsRecordFor}
use Rattle.perc_incoming.proofs.Standing.{granted_stands}
use Rattle.perc_incoming.proofs.receiving.Incoming.grant.Goals as goal

pub invariant_of-self-2 : goal.invariant_of-self-2
invariant_of-self-2 c =
    let i = c.self.invariant in
    let r = i.stands.0 in
    let g = c.args.granted.now in
    let items = c.self.inside.records.items in
    let left = drop (length items + 1 - 4) items in
    let key : g.len ≡ key_length c.self.inside.profile = rw (← c.self.view_is) at c.requires.key in
    let right : IsRecordFor c.self.inside.profile g = record { right = c.requires.right; key = key } in
    let all = All-push (IsRecordFor c.self.inside.profile) left g (All-drop (IsRecordFor c.self.inside.profile) (length items + 1 - 4) items i.right) right in
    record {
      session = i.session;
      some = omega (arith, ap length c.keep_record.ensures.items, length-append left (g ∷ []));
      right = subst (All (IsRecordFor c.self.inside.profile)) (sym c.keep_record.ensures.items) all;
      room_is = omega (arith, i.room_is, c.keep_record.ensures.capacity);
      few = omega (arith, c.keep_record.ensures.few);
      stands = (
        granted (secret_in g) r,
        granted_stands _ r g c.keep_record.new.records.items c.spi_add.new.self i.stands.1 c.keep_record.ensures.items
            (c.in_ok-spi_add.ensures.renewed (receiving r) i.stands.1.contexts),
      );
    }

pub returns-clause-answer : goal.returns-clause-answer
returns-clause-answer c = λ r stands.
    let g = c.args.granted.now in
    let s = rw (← c.self.view_is) at stands in
    let is : spi_answer (live_of r.secrets) g.spi ≡ Ok c.in_ok-spi_add.field-0 =
    sym (c.in_ok-spi_add.ensures.answer ∙ ap (λ live. spi_answer live g.spi) s.contexts.live) in
    rw is (
      refl,
      granted_stands _ r g c.keep_record.new.records.items c.spi_add.new.self s c.keep_record.ensures.items (c.in_ok-spi_add.ensures.renewed (receiving r) s.contexts),
    )
