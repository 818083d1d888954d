use Rattle.std.proofs.Common.{◌≡◌, Ok, Err, length, ap, subst, ◌∙◌}
use Rattle.std.proofs.lemmas.Result.{err_from_is_err_and}
use Rattle.perc_base.specs.Profile.{key_length}
use Rattle.perc_kdf.specs.Derivation.{KeyAndSalt}
use Rattle.perc_ekt.specs.Key.{stored}
use Rattle.perc_keydist.specs.Distributing.{drawn_pair}
use Rattle.perc_keydist.proofs.CallLaws.{kept_issued, told_drawn, told_same}
use Rattle.perc_keydist.proofs.IssuingLaws.{is_drawn_record, kept_gives, refused_gives}
use Rattle.perc_keydist.proofs.issuing.issue.Goals as goal

pub returns-in_err-keep_record-clause-told : goal.returns-in_err-keep_record-clause-told
returns-in_err-keep_record-clause-told g c = λ l rs known left.
    let p = c.args.profile in
    let r = c.record_of-record in
    let due = c.in_ok-spi.ensures.due l known in
    let drew = c.in_ok-pair.ensures.told rs left in
    let size = subst (λ (pair : KeyAndSalt). length pair.key ≡ key_length p) drew.0 c.in_ok-pair.ensures.size in
    let is = is_drawn_record p l.issued (drawn_pair (key_length p) rs) r.result
    (r.ensures.key ∙ ap (λ (pair : KeyAndSalt). stored pair.key) drew.0) r.ensures.len (r.ensures.salt ∙ ap (λ (pair : KeyAndSalt). pair.salt) drew.0) (r.ensures.spi ∙ due.0) r.ensures.life in
    let e = err_from_is_err_and c.from_residual-in_err-keep_record.result c.from_residual-in_err-keep_record.ensures.1 in
    rw (e.1, e.2) (refused_gives p l rs r.result (g.R.Randoms.left c.draw_pair.new.randoms) due.1 size is drew.1 c.in_err-keep_record.field-0.0 (g.K.Keeper.lists c.keep_record.new.keeper)
    (c.in_err-keep_record.ensures.told l (c.in_ok-spi.ensures.kept ∙ known)))

pub returns-clause-told : goal.returns-clause-told
returns-clause-told g c = λ l rs known left.
    let p = c.args.profile in
    let r = c.record_of-record in
    let due = c.in_ok-spi.ensures.due l known in
    let drew = c.in_ok-pair.ensures.told rs left in
    let size = subst (λ (pair : KeyAndSalt). length pair.key ≡ key_length p) drew.0 c.in_ok-pair.ensures.size in
    let is = is_drawn_record p l.issued (drawn_pair (key_length p) rs) r.result
    (r.ensures.key ∙ ap (λ (pair : KeyAndSalt). stored pair.key) drew.0) r.ensures.len (r.ensures.salt ∙ ap (λ (pair : KeyAndSalt). pair.salt) drew.0) (r.ensures.spi ∙ due.0) r.ensures.life in
    kept_gives p l rs r.result (g.R.Randoms.left c.draw_pair.new.randoms) due.1 size is drew.1 (g.K.Keeper.lists c.keep_record.new.keeper)
    (c.in_ok-keep_record.ensures.told l (c.in_ok-spi.ensures.kept ∙ known))

-- what the keeper tells, whatever fails
pub returns-in_err-spi-clause-once : goal.returns-in_err-spi-clause-once
returns-in_err-spi-clause-once g c = told_same _ _ c.next_spi.ensures.kept

pub returns-in_err-pair-clause-once : goal.returns-in_err-pair-clause-once
returns-in_err-pair-clause-once g c = told_same _ _ c.next_spi.ensures.kept

pub returns-in_err-keep_record-clause-once : goal.returns-in_err-keep_record-clause-once
returns-in_err-keep_record-clause-once g c =
    told_drawn {X = Unit {0}} (g.K.Keeper.lists c.args.keeper.now) (g.K.Keeper.lists c.next_spi.new.keeper) (g.K.Keeper.lists c.keep_record.new.keeper) c.in_ok-spi.spi c.record_of-record.result
    (Err c.in_err-keep_record.field-0.0) c.in_ok-spi.ensures.kept c.in_ok-spi.ensures.due c.record_of-record.ensures.spi c.in_err-keep_record.ensures.told

pub returns-clause-once : goal.returns-clause-once
returns-clause-once g c =
    told_drawn {X = Unit {0}} (g.K.Keeper.lists c.args.keeper.now) (g.K.Keeper.lists c.next_spi.new.keeper) (g.K.Keeper.lists c.keep_record.new.keeper) c.in_ok-spi.spi c.record_of-record.result
    (Ok (record {})) c.in_ok-spi.ensures.kept c.in_ok-spi.ensures.due c.record_of-record.ensures.spi c.in_ok-keep_record.ensures.told

pub returns-clause-kept : goal.returns-clause-kept
returns-clause-kept g c =
    kept_issued (g.K.Keeper.lists c.args.keeper.now) (g.K.Keeper.lists c.keep_record.new.keeper) c.record_of-record.result
    (λ l known. (c.in_ok-keep_record.ensures.told l (c.in_ok-spi.ensures.kept ∙ known)).1)
