use Rattle.std.proofs.Common.{◌≡◌, List, ℕ, [], IsErr, IsOk, MatchOption, MatchResult, ◌++◌, subst, sym}
use Rattle.perc_kdf.specs.Derivation.{KeyAndSalt}
use Rattle.perc_srtp.specs.Sealed.{sealed_body, unsealed_body}
use Rattle.perc_srtp.proofs.Sealing.{answered, answered_as_sealed, head_read, iv_read, text_behind}
use Rattle.perc_srtp.proofs.packet.unseal_behind.Goals as goal

pub returns-clause-answer : goal.returns-clause-answer
returns-clause-answer c = λ h is.
    let keys : KeyAndSalt = record { key = c.keys.inside.cipher; salt = c.keys.inside.salt } in
    let head = head_read h c.read.result c.unwrap-head.result (c.read.ensures.only h [] is) c.unwrap-head.ensures in
    let text = text_behind keys h c.args.header.now (c.args.body.now ++ c.args.tag.now) c.iv.result c.args.index is (iv_read keys c.args.index h c.unwrap-head.result c.iv.result head c.iv.ensures) in
    subst (λ (k : KeyAndSalt). MatchOption (unsealed_body k c.args.index h (c.args.body.now ++ c.args.tag.now)) (IsErr c.unseal.result × (c.unseal.new.text ≡ c.args.body.now)) (λ plain. IsOk c.unseal.result × (c.unseal.new.text ≡ plain))) c.keys.view_is
    (answered c.unseal.result (unsealed_body keys c.args.index h (c.args.body.now ++ c.args.tag.now)) c.args.body.now c.unseal.new.text
    (rw (sym text) c.unseal.ensures.answer) c.unseal.ensures.refused)

pub returns-clause-opened : goal.returns-clause-opened
returns-clause-opened c = λ h is.
    let keys : KeyAndSalt = record { key = c.keys.inside.cipher; salt = c.keys.inside.salt } in
    let head = head_read h c.read.result c.unwrap-head.result (c.read.ensures.only h [] is) c.unwrap-head.ensures in
    let text = text_behind keys h c.args.header.now (c.args.body.now ++ c.args.tag.now) c.iv.result c.args.index is (iv_read keys c.args.index h c.unwrap-head.result c.iv.result head c.iv.ensures) in
    subst
    (λ (k : KeyAndSalt).
    MatchResult c.unseal.result (λ _. c.args.body.now ++ c.args.tag.now ≡ sealed_body k c.args.index h c.unseal.new.text)
    (λ _. ((plain : List ℕ) → c.args.body.now ++ c.args.tag.now ≡ sealed_body k c.args.index h plain → ⊥) × (c.unseal.new.text ≡ c.args.body.now)))
    c.keys.view_is
    (answered_as_sealed c.unseal.result keys h (c.args.body.now ++ c.args.tag.now) c.args.body.now c.unseal.new.text c.args.index
    (rw (sym text) c.unseal.ensures.answer) c.unseal.ensures.refused)
