use Rattle.std.proofs.Common.{◌≡◌, [], ◌++◌, subst}
use Rattle.perc_kdf.specs.Derivation.{KeyAndSalt}
use Rattle.perc_srtp.specs.Sealed.{sealed_body}
use Rattle.perc_srtp.proofs.Sealing.{head_read, iv_read, sealed_behind}
use Rattle.perc_srtp.proofs.packet.seal_behind.Goals as goal

pub returns-clause-sealed : goal.returns-clause-sealed
returns-clause-sealed c = λ h is.
    let keys : KeyAndSalt = record { key = c.keys.inside.cipher; salt = c.keys.inside.salt } in
    let head = head_read h c.read.result c.unwrap-head.result (c.read.ensures.only h [] is) c.unwrap-head.ensures in
    subst (λ (k : KeyAndSalt). c.seal.new.text ++ c.seal.result ≡ sealed_body k c.args.index h c.args.body.now) c.keys.view_is
    (sealed_behind keys h c.args.header.now c.args.body.now (c.seal.new.text ++ c.seal.result) c.iv.result c.args.index is
    (iv_read keys c.args.index h c.unwrap-head.result c.iv.result head c.iv.ensures) c.seal.ensures.sealed)
