use Rattle.std.proofs.Common.{◌≡◌, [], ◌∷◌, ◌++◌, length, sym, subst, ap, ◌∙◌, arith}
use Rattle.std.proofs.lemmas.List.Elements.{All-cons, All-nil}
use Rattle.std.specs.List.{All}
use Rattle.std.specs.Prelude.{drop, ◌+◌, ◌-◌}
use Rattle.perc_contexts.specs.Receiving.{nothing_held}
use Rattle.perc_receiver.specs.Table.{secret_in}
use Rattle.perc_receiver.specs.Calls.{started}
use Rattle.perc_ekt.specs.declared.record.EktKeyRecord.{EktKeyRecord}
use Rattle.std.specs.Prelude.{List}
use Rattle.perc_incoming.specs.Kept.{IsRecordFor}
use Rattle.perc_incoming.proofs.Standing.{started_stands}
use Rattle.perc_incoming.proofs.receiving.Incoming.start.Goals as goal

pub invariant_of-result : goal.invariant_of-result
invariant_of-result c =
    let g = c.args.granted.now in
    let one : c.keep_record.new.records.items ≡ g ∷ [] =
    c.keep_record.ensures.items ∙ ap (λ (l : List EktKeyRecord). drop (length l + 1 - 4) l ++ g ∷ []) c.in-Ok.ensures.items in
    let right : IsRecordFor c.args.profile g = record { right = c.requires.right; key = c.requires.key } in
    record {
      session = c.outer_session.ensures.session;
      some = omega (arith, ap length one);
      right = subst (All (IsRecordFor c.args.profile)) (sym one) (All-cons (IsRecordFor c.args.profile) g [] right (All-nil (IsRecordFor c.args.profile)));
      room_is = omega (arith, c.in-Ok.ensures.capacity, c.keep_record.ensures.capacity);
      few = omega (arith, c.keep_record.ensures.few);
      stands = (
        started c.args.ssrc c.args.server.now (secret_in g),
        started_stands _ _ c.args.server.now _ _ g _ _ _ _ c.outer_session.ensures.value c.outer_session-2.ensures.value one
            (c.in-Ok-spi_add.ensures.renewed nothing_held c.in_ok-contexts.ensures) c.in_ok-with_room.ensures c.new.ensures,
      );
    }

pub returns-clause-started : goal.returns-clause-started
returns-clause-started c =
    let g = c.args.granted.now in
    let one : c.keep_record.new.records.items ≡ g ∷ [] =
    c.keep_record.ensures.items ∙ ap (λ (l : List EktKeyRecord). drop (length l + 1 - 4) l ++ g ∷ []) c.in-Ok.ensures.items in
    started_stands _ _ c.args.server.now _ _ g _ _ _ _ c.outer_session.ensures.value c.outer_session-2.ensures.value one
    (c.in-Ok-spi_add.ensures.renewed nothing_held c.in_ok-contexts.ensures) c.in_ok-with_room.ensures c.new.ensures
